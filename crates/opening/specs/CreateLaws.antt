-- Create on a located name: its causes as the code tests them, and what it can do where none holds.
use Rattle.std.specs.Prelude.{ℕ, ◌+◌, ◌-◌, ◌*◌, ◌≤◌, ◌<◌, max, ◌≡◌, refl, List, true, length}
use Rattle.std.proofs.Common.{sym, ap, subst, ◌∙◌, arith}
use Rattle.meaning.specs.File.{needed, longest}
use Rattle.meaning.specs.Store.{Store, file, in_use, free_blocks, last}
use Rattle.meaning.specs.Tables.{Tables, store_of, file_count, channel_count, file_length}
use Rattle.meaning.specs.Sound.{sound}
use Rattle.meaning.specs.declared.FileNo.{FileNo}
use Rattle.meaning.specs.NameCalls.{parent, record_for, rewritten, naming}
use Rattle.tables.specs.Searches.{free_block_count}
use Rattle.layout.specs.Layout.{sound_layout}
use Rattle.layout.specs.Fits.{FileFits}
use Rattle.soundness.specs.Use.{used}
use Rattle.lookup.specs.Filed.{sound_well}
use Rattle.trees.specs.Standing.{Place}
use Rattle.keeping.specs.OnChannels.{named_used}
use Rattle.keeping.proofs.Named.{named_fits}
use Rattle.files.specs.Files.{Clearable}
use Rattle.naming.specs.At.{At, not_missing, stands_for, new_dir}
use Rattle.naming.specs.declared.Located.TheVariants.{New, Old}
use Rattle.recording.specs.Recording.{record_of}
use Rattle.recording.specs.NameRecord.{start_within, part_spelled}
use Rattle.placing.specs.Free.{sized}
use Rattle.placing.specs.NewName.{vacancy, more, in_directory_lem, few-records, same-naming}
use Rattle.placing.specs.Room as R
use Rattle.opening.specs.Create.{Makes}

module _ (t : Tables) (ok : sound t ≡ true) where
  pub in_use_clears : (f : ℕ) → in_use (store_of t) f ≡ true → Clearable t.block_records t.file_records f
  unfolding store_of
  in_use_clears f is =
      let u = used (store_of t) f is in
      let l = (sound_layout t ok).lengths in
      record { whole = record { few = l.few-blocks; whole = l.block_records_lem }; from_one = u.some; to_last = u.within }

-- an existing file can be emptied
pub old_clears : (t : Tables) (bytes : List ℕ) (k : ℕ) (d f : FileNo) → At t bytes k (Old d f) → Clearable t.block_records t.file_records f.0
old_clears t bytes k d f a =
    in_use_clears t a.ok f.0
    (ap (in_use (store_of t)) (stands_for t bytes k (Old d f) a d f refl)
    ∙ named_used (store_of t) (sound_well t a.ok) (sized t a.ok) bytes a.name a.is (not_missing t bytes k (Old d f) a d f refl))

-- ---- a new name

module _ (t : Tables) (bytes : List ℕ) (k : ℕ) (d : FileNo) (a : At t bytes k (New d)) where
  abbrev s : Store
  s = store_of t

  abbrev n : List (List ℕ)
  n = a.name

  module _ (i : ℕ) (found : i ≡ record_for s n) where
    abbrev size : ℕ
    size = file_length t.file_records d.0

    dir : d.0 ≡ parent s n
    dir = new_dir t bytes k (New d) a d refl

    abbrev place : Place s n
    place = (vacancy t bytes k (New d) a d refl).place

    -- the change of the directory
    pub same_record : (f : ℕ) → file d.0 (rewritten s d.0 i (record_of f bytes)) ≡ file (parent s n) (naming s n f)
    same_record f =
        let same = same-naming t bytes k (New d) a d refl i found f in
        λ j. file (dir j) (same j)

    module _ (big : max size (16 * i + 16) ≤ longest) (room : needed (max size (16 * i + 16)) - needed size ≤ free_block_count t.block_records) where
      pub makes : (c f : ℕ) → c < channel_count t.channel_records → 0 < f → f ≤ file_count t.file_records → Makes t bytes c f d.0 i
      makes c f below some last =
          let same = same-naming t bytes k (New d) a d refl i found f in
          let room' : needed (length (naming s n f).bytes) - needed (length (s.file (parent s n)).bytes) ≤ free_blocks s =
          rw (R.new-size t a.ok n place d.0 dir i found f, R.dir-size t a.ok n place d.0 dir i found, ← R.free_is t a.ok n place d.0 dir i found) room in
          let fits : FileFits s d.0 (naming s n f) = subst (λ (d : ℕ). FileFits s d (naming s n f)) (sym dir) (named_fits s n place f room') in
          let few = few-records t bytes k (New d) a d refl i found in
          let many = more t bytes k (New d) a d refl in
          record {
            below = below;
            from_one = some;
            to_last = last;
            small = omega (arith, few.1);
            start = start_within bytes n a.is many;
            spelled = part_spelled bytes n a.is many;
            rewritable = record {
              channels = t.channel_records;
              layout = sound_layout t a.ok;
              is_directory_lem = in_directory_lem t bytes k (New d) a d refl;
              fits = subst (FileFits s d.0) (sym same) fits;
            };
          }
