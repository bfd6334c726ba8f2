-- The source's state of a well-formed store keeps the source's invariants: AS, NS, dirstored and FS.
use Rattle.std.specs.Prelude.{ℕ, ◌-◌, ◌≤◌, ◌<◌, ◌≡◌, ◌≢◌, List, [], ◌∷◌, true, false, length}
use Rattle.std.proofs.Common.{ap, sym, ◌∙◌, arith, length-take}
use Rattle.std.proofs.Math.Option.{some}
use Rattle.records.specs.Tests.{not_so}
use Rattle.meaning.specs.Name.{most_syllables, record_count, is_blank, entry_at, record_named, in_directory}
use Rattle.meaning.specs.Store.{Store, after_all, root, in_use, is_directory, within, named, front, last}
use Rattle.meaning.specs.Tables.{store_of}
use Rattle.meaning.specs.Run.{meaning, changes_of}
use Rattle.layout.specs.Layout.{sound_layout}
use Rattle.soundness.specs.Use.{of_used, directory_used}
use Rattle.soundness.specs.Well.{Well}
use Rattle.soundness.specs.WellFacts.{directory-form, blank_file, root-directory, open_channel, naming_record}
use Rattle.lookup.specs.Filed.{sound_well}
use Rattle.lookup.specs.Walk.{named-last, named-walk}
use Rattle.trees.specs.Records.{in_some, in_found}
use Rattle.trees.proofs.Lookups.{within-directory, within_is}
use Rattle.trees.proofs.Depth.{named-depth}
use Rattle.trees.specs.Standing.{named_empty}
use Rattle.keeping.specs.Sure.{sized_after}
use Rattle.keeping.proofs.Calls.{good, sure}
use Rattle.source.specs.Sets.{◌∈dom◌}
use Rattle.source.specs.Channels.{CHAN}
use Rattle.source.specs.Naming.{NAME, NS, applied, dirstored}
use Rattle.source.specs.Filing.{Used, by_name, by_channel, FS}
use Rattle.source.specs.View.{numbered, view, dirformat, RootFid}
use Rattle.source.specs.Accepted.{sized}
use Rattle.source.specs.InvariantStatements.{StateHolds, InvariantsHold, InvariantsKept, SoundReady}
use Rattle.source.specs.ViewLaws.{no_more, numbered_some, numbered_is, numbered_not, file_there, channel_open, channel_is, more_syllables}

-- ---- of any store

module _ (s : Store) where
  -- the directory of a name that stands for something
  its_directory : (name : NAME) → name ≢ [] → named s name ≢ 0 → is_directory s (named s (front name)) ≡ true
  its_directory name more there =
      within-directory s (named s (front name)) (last name) (λ z. there (named-last s name (more_syllables name more) ∙ z))

  pub directory_there : (d : ℕ) → is_directory s d ≡ true → d ≢ 0
  directory_there d is z = omega (arith, (directory_used s d is).some)

  pub names-front : NS (view s).nstore (view s).dnames
  names-front =
      record {
        file-front = λ name more (f, e). its_directory name more (numbered_not (named s name) f e);
        directory-front = λ name more is. its_directory name more (directory_there (named s name) is);
      }

  -- the source's rule for stored directories: a syllable of a directory is a name, and stands for what the directory says
  pub by_rule : (name : NAME) → name ≢ [] → is_directory s (named s (front name)) ≡ true
      → (view s).nstore name ≡ applied (λ dir. dirformat dir (last name)) (applied (view s).fstore ((view s).nstore (front name)))
  by_rule name more is =
      let d = named s (front name) in
      let at : named s name ≡ in_directory (s.file d).bytes (last name) =
      named-last s name (more_syllables name more) ∙ within_is s d (last name) is in
      let front-there : (view s).nstore (front name) ≡ some d = numbered_some d (directory_there d is) in
      let bytes : (view s).fstore d ≡ some (s.file d).bytes = file_there s d (of_used s d (directory_used s d is)) in
      ap numbered at
      ∙ ap (applied (λ dir. dirformat dir (last name))) (sym bytes)
      ∙ ap (λ o. applied (λ dir. dirformat dir (last name)) (applied (view s).fstore o)) (sym front-there)

  -- where names stand for files in use, directories are stored
  pub directories_stored : ((name : NAME) (f : ℕ) → (view s).nstore name ≡ some f → f ∈dom (view s).fstore)
      → dirstored dirformat RootFid (view s).fstore (view s).nstore (view s).dnames
  directories_stored is_in_use =
      record {
        directories = λ name is. (named s name, numbered_some (named s name) (directory_there (named s name) is));
        files = is_in_use;
        rule = λ name more (f, e). by_rule name more (its_directory name more (numbered_not (named s name) f e));
        top = ap numbered (named_empty s);
      }

-- ---- of a well-formed store

module _ (s : Store) (w : Well s) (some_file : 0 < s.file_count) where
  root_used : in_use s root ≡ true
  root_used = of_used s root (directory_used s root (root-directory s w some_file))

  -- what a directory names is in use
  within_used : (d : ℕ) (syllable : List ℕ) → within s d syllable ≢ 0 → in_use s (within s d syllable) ≡ true
  within_used d syllable there =
      let dir = (s.file d).bytes in
      let is = within-directory s d syllable there in
      let at = within_is s d syllable is in
      let i = record_named dir syllable in
      let found : i < record_count dir = in_some dir syllable (λ z. there (at ∙ z)) in
      let its : within s d syllable ≡ (entry_at dir i).file = at ∙ in_found dir syllable found in
      let used : is_blank dir i ≡ false = not_so (is_blank dir i) (λ b. there (its ∙ blank_file dir i b)) in
      rw its (naming_record s w d i is found used).is_in_use

  pub name_used : (name : NAME) → named s name ≢ 0 → in_use s (named s name) ≡ true
  name_used [] there = rw (named_empty s) root_used
  name_used (x ∷ rest) there =
      let name : NAME = x ∷ rest in
      let at : named s name ≡ within s (named s (front name)) (last name) = named-last s name (omega arith) in
      rw at (within_used (named s (front name)) (last name) (λ z. there (at ∙ z)))

  pub name-file : (name : NAME) (f : ℕ) → (view s).nstore name ≡ some f → f ∈dom (view s).fstore
  name-file name f e =
      let is = numbered_is (named s name) f e in
      ((s.file f).bytes, file_there s f (rw is at (name_used name (numbered_not (named s name) f e))))

  pub channel_file : (c : ℕ) (chan : CHAN) → (view s).cstore c ≡ some chan → chan.fid ∈dom (view s).fstore
  channel_file c chan e =
      let is : (s.channel c).file ≡ chan.fid = ap (λ (y : CHAN). y.fid) (channel_is s c chan e) in
      ((s.file chan.fid).bytes, file_there s chan.fid (rw is at (open_channel s w c (channel_open s c chan e)).is_in_use))

  all_used_lem : (f : ℕ) → Used (view s) f → f ∈dom (view s).fstore
  all_used_lem f (by_name name e) = name-file name f e
  all_used_lem f (by_channel c chan e is) = rw is at (channel_file c chan e)

  pub filing_system : FS (view s)
  filing_system = record { names = names-front s; used = all_used_lem }

  -- directories lie at most 7 deep
  few-syllables : (name : NAME) → name ∈dom (view s).nstore → length name ≤ most_syllables
  few-syllables [] (f, e) = omega arith
  few-syllables (x ∷ rest) (f, e) =
      let name : NAME = x ∷ rest in
      let is = (names-front s).file-front name (no_more name (omega arith)) (f, e) in
      omega (arith, named-depth s w (front name) is, (directory-form s w (named s (front name)) is).depth, length-take (length name - 1) name)

  pub state_holds : StateHolds s
  state_holds =
      record {
        access = record { refers = channel_file };
        names = names-front s;
        stored = directories_stored s name-file;
        filing = filing_system;
        whole = by_rule s;
        walked = λ name. ap numbered (named-walk s name);
        few = few-syllables;
      }

pub invariants_hold : InvariantsHold
invariants_hold s ready = state_holds s ready.well ready.some_file

-- by what every call keeps
pub invariants_kept : InvariantsKept
invariants_kept s ready call =
    let z = sized s ready in
    let kept = sure s ready.well z (meaning call s) (good s ready.well z call) in
    state_holds (after_all s (changes_of (meaning call s))) kept.well (sized_after s (changes_of (meaning call s)) z).some_files

pub sound_ready : SoundReady
unfolding store_of
sound_ready t e =
    let lengths = (sound_layout t e).lengths in
    record { well = sound_well t e; some_file = lengths.some_files; few-files = lengths.few-files }
