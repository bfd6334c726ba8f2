-- unlink is its schema.
use Rattle.std.specs.Prelude.{ℕ, ◌<◌, ◌≡◌, refl, ◌≢◌, true, false, length}
use Rattle.std.proofs.Common.{ap, sym, ◌∙◌, true≢false}
use Rattle.std.proofs.Math.Option.{some}
use Rattle.meaning.specs.Name.{is_syllable}
use Rattle.meaning.specs.Store.{Store, after_all, root, in_use, is_directory, named, front, last, let_go}
use Rattle.meaning.specs.Result.{missing}
use Rattle.meaning.specs.NameCalls.{parent, unlink}
use Rattle.soundness.specs.WellFacts.{root-directory, ordinary-form}
use Rattle.trees.specs.Standing.{Standing, standing, missing_some, some_syllable, last_spelled}
use Rattle.trees.specs.Naming.{without_name}
use Rattle.source.specs.Naming.{NAME}
use Rattle.source.specs.Filing.{State, FS, ΞNS, direncode}
use Rattle.source.specs.Departures.{Freeing, unlinkFS, Unlinking}
use Rattle.source.specs.View.{view, dirformat, RootFid}
use Rattle.source.specs.ViewLaws.{numbered_some}
use Rattle.source.specs.Invariants.{filing_system, name_used, directory_there}
use Rattle.source.specs.StateLaws.{freeing-names}
use Rattle.source.specs.Freeing.{let_go_lem}
use Rattle.source.specs.NameSteps.{Rewritten, left-names, left_facts}
use Rattle.source.specs.Encoding.{unnaming_state, unnaming_filing, encoded, not_front}
use Rattle.source.specs.Accepted.{Ready, accepted, past, spelled}
use Rattle.source.specs.NameStatements.{SameDirectories, UnlinkHolds}

-- a file that is no directory is not the root, and its name has a syllable
module _ (s : Store) (ready : Ready s) where
  pub plain_other : (f : ℕ) → is_directory s f ≡ false → f ≢ root
  plain_other f isnt e = true≢false (sym (root-directory s ready.well ready.some_file) ∙ ap (is_directory s) (sym e) ∙ isnt)

  pub plain_name : (name : NAME) → is_directory s (named s name) ≡ false → 0 < length name
  plain_name name isnt = some_syllable s name (plain_other (named s name) isnt)

-- the file that a name stood for, let go in a store whose directories are those of s
module _ (s : Store) (ready : Ready s) (t : Store) (d : ℕ) (facts : Rewritten s t d) (fs : FS (view t)) (g : ℕ) (u : in_use s g ≡ true) (isnt : is_directory s g ≡ false) where
  pub lets_go : Freeing g (view t) (view (after_all t (let_go t g)))
  lets_go =
      let_go_lem t facts.tree fs g (facts.uses g ∙ u)
      (λ _. facts.kinds g ∙ (ordinary-form s ready.well g u isnt).kind)
      (λ _. plain_other s ready g isnt)

module _ (s : Store) (ready : Ready s) (name : NAME) (is_last : is_syllable (last name) ≡ true) (there : missing s name ≡ false) (plain : is_directory s (named s name) ≡ false) where
  abbrev f : ℕ
  f = named s name

  abbrev t : Store
  t = without_name s name

  more : 0 < length name
  more = plain_name s ready name plain

  st : Standing s name
  st = standing s ready.well name is_last more there

  fs : FS (view s)
  fs = filing_system s ready.well ready.some_file

  is_named_lem : (view s).nstore name ≡ some f
  is_named_lem = numbered_some f (missing_some s name there)

  facts : Rewritten s t (parent s name)
  facts = left_facts s ready.well name more st.place plain

  abbrev mid : State
  mid = unnaming_state (view s) name

  mid_filing : FS mid
  mid_filing = unnaming_filing (view s) fs name

  mid-names : ΞNS mid (view t)
  mid-names = record { names = left-names s ready.well name more st.place plain; directories = facts.directories }

  its_directory : is_directory s (named s (front name)) ≡ true
  unfolding parent
  its_directory = st.place.directory

  front-named : mid.nstore (front name) ≡ some (parent s name)
  unfolding parent
  front-named = rw (not_front name more) (numbered_some (parent s name) (directory_there s (parent s name) its_directory))

  unlink_encodes : direncode dirformat RootFid mid (view t)
  unlink_encodes =
      encoded mid mid_filing t facts.channels mid-names facts.kept (parent s name) (front name) its_directory front-named facts.files

  taken : unlinkFS name (view s) (view t)
  taken = (
    mid,
    record {
      change = record { before = fs; after = mid_filing };
      files = refl;
      channels = refl;
      names = record { exists = (f, is_named_lem); destroys = refl };
    },
    unlink_encodes,
  )

  is_in_use : in_use s f ≡ true
  is_in_use = name_used s ready.well ready.some_file name (missing_some s name there)

  goes : Freeing f (view t) (view (after_all t (let_go t f)))
  goes = lets_go s ready t (parent s name) facts unlink_encodes.change.after f is_in_use plain

  unlinks : Unlinking name (view s) (view (after_all t (let_go t f)))
  unlinks = record { fid = f; is = is_named_lem; unlinks = (view t, taken, goes) }

  same_directories : SameDirectories (view s) (view (after_all t (let_go t f)))
  same_directories = (freeing-names f (view t) (view (after_all t (let_go t f))) goes).directories ∙ facts.directories

pub unlink-holds : UnlinkHolds
unfolding unlink after_all
unlink-holds s ready bytes name e =
    spelled _ name _ _ e (
    past _ _ _ _ λ there.
    past _ _ _ _ λ plain.
    let is_last = last_spelled bytes name e (plain_name s ready name plain) in
    accepted _ _ _ _ (unlinks s ready name is_last there plain, refl, same_directories s ready name is_last there plain))
