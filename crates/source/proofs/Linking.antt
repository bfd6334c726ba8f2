-- link is its schema.
use Rattle.std.specs.Prelude.{ℕ, ◌<◌, ◌≡◌, refl, ◌≢◌, true, false, length}
use Rattle.std.proofs.Common.{◌∙◌, ⊎_elim, arith}
use Rattle.std.proofs.Math.Option.{some}
use Rattle.records.specs.Tests.{tested, same_or_not}
use Rattle.meaning.specs.Name.{is_syllable}
use Rattle.meaning.specs.Store.{Store, after_all, in_use, is_directory, named, front, last, is_orphan, let_go}
use Rattle.meaning.specs.Result.{missing, nowhere, if_fits}
use Rattle.meaning.specs.NameCalls.{parent, link, if_naming_fits}
use Rattle.soundness.specs.Use.{used}
use Rattle.trees.specs.Standing.{Place, standing, vacant, missing_some, last_spelled}
use Rattle.trees.specs.Naming.{with_name}
use Rattle.source.specs.Sets.{◌⊕◌, ◌⟼◌, the_name}
use Rattle.source.specs.Naming.{NAME}
use Rattle.source.specs.Filing.{State, FS, ΞNS, by_channel, direncode}
use Rattle.source.specs.Departures.{Replacing, nothing, something, linkFS, Linking}
use Rattle.source.specs.View.{view, dirformat, RootFid}
use Rattle.source.specs.ViewLaws.{numbered_some, numbered_none, file_there}
use Rattle.source.specs.Invariants.{filing_system, name_used, directory_there}
use Rattle.source.specs.StateLaws.{replacing-names}
use Rattle.source.specs.NameSteps.{Rewritten, given-names, given_facts}
use Rattle.source.specs.Encoding.{naming_state, naming_filing, encoded, not_front}
use Rattle.source.specs.Accepted.{Ready, accepted, past, spelled}
use Rattle.source.specs.NameStatements.{SameDirectories, LinkHolds}
use Rattle.source.proofs.Unlinking.{plain_name, lets_go}

-- ---- a name that can be given: it stands for no directory, and its directory is there

pub place_of : (s : Store) → Ready s → (name : NAME) → is_syllable (last name) ≡ true → nowhere s name ≡ false → is_directory s (named s name) ≡ false → Place s name
place_of s ready name is_last here plain =
    ⊎_elim
    (λ (gone : missing s name ≡ true). (vacant s ready.well name is_last gone here).place)
    (λ (there : missing s name ≡ false). (standing s ready.well name is_last (plain_name s ready name plain) there).place)
    (tested (missing s name))

-- its directory, in the source's state with the name given
module _ (s : Store) (name : NAME) (more : 0 < length name) (p : Place s name) where
  pub place-directory : is_directory s (named s (front name)) ≡ true
  unfolding parent
  place-directory = p.directory

  pub place-front : (fid : ℕ) → ((view s).nstore ⊕ the_name name ⟼ fid) (front name) ≡ some (parent s name)
  unfolding parent
  place-front fid = rw (not_front name more) (numbered_some (parent s name) (directory_there s (parent s name) place-directory))

-- ---- link

module _ (s : Store) (ready : Ready s) (from to : NAME) (there : missing s from ≡ false) (plainly : is_directory s (named s from) ≡ false)
    (p : Place s to) (plain : is_directory s (named s to) ≡ false) where
  abbrev f : ℕ
  f = named s from

  abbrev t : Store
  t = with_name s to f

  more : 0 < length to
  more = plain_name s ready to plain

  is_in_use : in_use s f ≡ true
  is_in_use = name_used s ready.well ready.some_file from (missing_some s from there)

  small : f < 65536
  small = let u = used s f is_in_use in omega (arith, ready.few-files)

  fs : FS (view s)
  fs = filing_system s ready.well ready.some_file

  facts : Rewritten s t (parent s to)
  facts = given_facts s ready.well to more p f small (missing_some s from there) plain plainly

  abbrev mid : State
  mid = naming_state (view s) to f (view s).fstore (view s).cstore

  mid_filing : FS mid
  mid_filing =
      naming_filing (view s) fs to (place-directory s to more p) f (view s).fstore (view s).cstore (λ g h. h) ((s.file f).bytes, file_there s f is_in_use)
      (λ cid chan e. fs.used chan.fid (by_channel cid chan e refl))

  mid-names : ΞNS mid (view t)
  mid-names = record { names = given-names s ready.well to more p f small (missing_some s from there) plain plainly; directories = facts.directories }

  encodes : direncode dirformat RootFid mid (view t)
  encodes =
      encoded mid mid_filing t facts.channels mid-names facts.kept (parent s to) (front to) (place-directory s to more p) (place-front s to more p f) facts.files

  given : linkFS from to (view s) (view t)
  given = (
    mid,
    record {
      change = record { before = fs; after = mid_filing };
      files = refl;
      channels = refl;
      fid = f;
      names = record { is = numbered_some f (missing_some s from there); links = refl };
    },
    encodes,
  )

  -- there is no file 0
  none_goes : named s to ≡ 0 → view (after_all t (let_go t (named s to))) ≡ view t
  unfolding let_go is_orphan in_use after_all
  none_goes z = rw z

  replaces : Replacing (view s) to (view t) (view (after_all t (let_go t (named s to))))
  replaces =
      ⊎_elim
      (λ (z : named s to ≡ 0). nothing (numbered_none (named s to) z) (none_goes z))
      (λ (some_file : named s to ≢ 0). something (named s to) (numbered_some (named s to) some_file)
      (lets_go s ready t (parent s to) facts encodes.change.after (named s to) (name_used s ready.well ready.some_file to some_file) plain))
      (same_or_not (named s to) 0)

  links : Linking from to (view s) (view (after_all t (let_go t (named s to))))
  links = (view t, given, replaces)

  link_directories : SameDirectories (view s) (view (after_all t (let_go t (named s to))))
  link_directories = (replacing-names (view s) to (view t) (view (after_all t (let_go t (named s to)))) replaces).directories ∙ facts.directories

pub link-holds : LinkHolds
unfolding link if_naming_fits if_fits after_all
link-holds s ready old new from to e h =
    spelled _ from _ _ e (
    spelled _ to _ _ h (
    past _ _ _ _ λ there.
    past _ _ _ _ λ plainly.
    past _ _ _ _ λ here.
    past _ _ _ _ λ plain.
    past _ _ _ _ λ size.
    past _ _ _ _ λ room.
    let p = place_of s ready to (last_spelled new to h (plain_name s ready to plain)) here plain in
    accepted _ _ _ _ (links s ready from to there plainly p plain, refl, link_directories s ready from to there plainly p plain)))
