-- A name that stands for nothing, in a directory that is there.
use Rattle.std.specs.Prelude.{ℕ, ◌+◌, ◌*◌, ◌≤◌, ◌<◌, max, ◌≡◌, refl, ◌≢◌, List, true, false, length, Ok}
use Rattle.std.proofs.Common.{ap, sym, ◌∙◌, arith}
use Rattle.meaning.specs.Store.{Store, root, in_use, is_directory, named}
use Rattle.meaning.specs.Tables.{Tables, store_of, file_length}
use Rattle.meaning.specs.Result.{Result}
use Rattle.meaning.specs.NameCalls.{record_for, rewritten, naming, if_naming_fits}
use Rattle.tables.specs.Searches.{free_block_count}
use Rattle.soundness.specs.Seen.{files_store, is_directory-seen}
use Rattle.lookup.specs.Filed.{filed, directory-seen, sound_well}
use Rattle.trees.specs.Standing.{Vacant, some_syllable}
use Rattle.keeping.proofs.Named.{new_vacant}
use Rattle.naming.specs.Judged.{Spelled}
use Rattle.naming.specs.Located.{NewIn, Locates, Recorded}
use Rattle.naming.specs.At.{At, stands_at, is_missing, somewhere, unnamed, new_dir}
use Rattle.naming.specs.InStore.{found_record, located_new}
use Rattle.meaning.specs.declared.FileNo.{FileNo}
use Rattle.naming.specs.declared.Located.{Located}
use Rattle.naming.specs.declared.Located.TheVariants.{New}
use Rattle.recording.specs.Fit.{if_fits_in}
use Rattle.recording.specs.Recording.{record_of}
use Rattle.recording.specs.NameRecord.{name_record}
use Rattle.placing.specs.Free.{sized}
use Rattle.placing.specs.Room as R

module _ (t : Tables) (bytes : List ℕ) (k : ℕ) (x : Located) (a : At t bytes k x) (d : FileNo) (new : x ≡ New d) where
  abbrev s : Store
  s = store_of t

  abbrev n : List (List ℕ)
  n = a.name

  pub vacancy : Vacant s n
  vacancy = new_vacant s (sound_well t a.ok) (sized t a.ok) bytes n a.is (is_missing t bytes k x a d new) (somewhere t bytes k x a d new)

  pub more : 0 < length n
  more = some_syllable s n (λ (e : named s n ≡ root). absurd (omega (arith, unnamed t bytes k x a d new)))

  pub deep : k ≢ 0
  deep e = omega (arith, more, a.count)

  pub in_directory_lem : is_directory s d.0 ≡ true
  in_directory_lem = ap (is_directory s) (new_dir t bytes k x a d new) ∙ vacancy.place.directory

  -- it stands for no directory
  pub no_directory : is_directory s (named s n) ≡ false
  unfolding is_directory in_use
  no_directory = rw (unnamed t bytes k x a d new)

  module _ (i : ℕ) (found : i ≡ record_for s n) where
    abbrev size : ℕ
    size = file_length t.file_records d.0

    pub few-records : (size ≤ 32768) × (i ≤ 2048)
    few-records = R.few-records t a.ok n vacancy.place d.0 (new_dir t bytes k x a d new) i found

    pub fits_is : (f : ℕ) (r : Result) → if_naming_fits s n (naming s n f) r ≡ if_fits_in (free_block_count t.block_records) size (max size (16 * i + 16)) r
    fits_is = R.fits_is t a.ok n vacancy.place d.0 (new_dir t bytes k x a d new) i found

    -- the directory with the name's record, as the code gives it
    pub same-naming : (f : ℕ) → rewritten s d.0 i (record_of f bytes) ≡ naming s n f
    same-naming f =
        R.same-naming t a.ok n vacancy.place d.0 (new_dir t bytes k x a d new) i found f (record_of f bytes) (name_record bytes n a.is more f)

-- ---- the same, as the code has it: a name judged well written, then located

module _ (t : Tables) (bytes : List ℕ) (k : ℕ) (sp : Spelled t bytes k) (d : FileNo) (l : Locates (filed t.blocks t.block_records t.file_records) bytes (New d)) where
  abbrev at : At t bytes k (New d)
  at = stands_at t.blocks t.block_records t.file_records t.channel_records bytes k sp (New d) l

  pub directory_there : is_directory (files_store t.file_records) d.0 ≡ true
  directory_there = sym (is_directory-seen t d.0) ∙ in_directory_lem t bytes k (New d) at d refl

  -- what the search for its record asks
  pub new_place : NewIn t.blocks t.block_records t.file_records bytes d.0
  new_place =
      located_new t.blocks t.block_records t.file_records t.channel_records bytes (Ok k) sp k refl (New d) l (deep t bytes k (New d) at d refl) d refl
      (sym (directory-seen t.blocks t.block_records t.file_records t.channel_records d.0) ∙ in_directory_lem t bytes k (New d) at d refl)

  module _ (i : ℕ) (r : Recorded (filed t.blocks t.block_records t.file_records) bytes i) where
    pub its_place : i ≡ record_for (store_of t) at.name
    its_place = found_record t.blocks t.block_records t.file_records t.channel_records bytes k (New d) at i r

    pub few_there : (file_length t.file_records d.0 ≤ 32768) × (i ≤ 2048)
    few_there = few-records t bytes k (New d) at d refl i its_place
