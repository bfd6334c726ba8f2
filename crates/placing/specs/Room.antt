-- The record of a name in its directory: how large the directory becomes, and the room that it asks.
use Rattle.std.specs.Prelude.{ℕ, ◌+◌, ◌*◌, ◌≤◌, max, ◌≡◌, List, true}
use Rattle.std.proofs.Math.Path.{ap}
use Rattle.std.proofs.Common.{sym, ◌∙◌, arith}
use Rattle.std.proofs.Math.ListN.{length}
use Rattle.meaning.specs.Name.{entry, written, record_count}
use Rattle.meaning.specs.Store.{Store, free_blocks, last}
use Rattle.meaning.specs.Tables.{Tables, store_of, file_length}
use Rattle.meaning.specs.Sound.{sound}
use Rattle.meaning.specs.Result.{Result, if_fits}
use Rattle.meaning.specs.NameCalls.{parent, record_for, rewritten, naming, if_naming_fits}
use Rattle.names.specs.RecordLaws.{length-written}
use Rattle.tables.specs.Searches.{free_block_count}
use Rattle.layout.specs.Layout.{sound_layout, length-file}
use Rattle.layout.specs.Counting.{free_block_count_lem}
use Rattle.directories.specs.EntryLaws.{length_with}
use Rattle.soundness.specs.WellFacts.{directory-form}
use Rattle.lookup.specs.Filed.{sound_well}
use Rattle.trees.specs.Standing.{Place}
use Rattle.recording.specs.Fit.{if_fits_in}

-- d is the name's directory and i its record there, as the code finds them
module _ (t : Tables) (ok : sound t ≡ true) (n : List (List ℕ)) (p : Place (store_of t) n) (d : ℕ) (dir : d ≡ parent (store_of t) n) (i : ℕ) (found : i ≡ record_for (store_of t) n) where
  abbrev s : Store
  s = store_of t

  abbrev size : ℕ
  size = file_length t.file_records d

  pub dir-size : length (s.file (parent s n)).bytes ≡ size
  unfolding store_of
  dir-size = ap (λ (d : ℕ). length (s.file d).bytes) (sym dir) ∙ length-file t d

  pub few-records : (size ≤ 32768) × (i ≤ 2048)
  few-records =
      let form = directory-form s (sound_well t ok) (parent s n) p.directory in
      (omega (arith, form.size, dir-size), omega (arith, found, p.within, form.size))

  pub new-size : (f : ℕ) → length (naming s n f).bytes ≡ max size (16 * i + 16)
  unfolding naming rewritten
  new-size f =
      let l = length_with (s.file (parent s n)).bytes (written (entry f (last n))) (record_count (s.file (parent s n)).bytes) (record_for s n)
      p.whole (length-written (entry f (last n)) p.spelled) p.within in
      omega (arith, found, dir-size, p.whole)

  pub free_is : free_block_count t.block_records ≡ free_blocks s
  free_is = free_block_count_lem t (sound_layout t ok)

  pub fits_is : (f : ℕ) (r : Result) → if_naming_fits s n (naming s n f) r ≡ if_fits_in (free_block_count t.block_records) size (max size (16 * i + 16)) r
  unfolding if_naming_fits if_fits if_fits_in
  fits_is f r = rw (dir-size, new-size f, free_is)

  -- the directory with the name's record, as the code gives it
  pub same-naming : (f : ℕ) (r : List ℕ) → r ≡ written (entry f (last n)) → rewritten s d i r ≡ naming s n f
  unfolding naming
  same-naming f r is = rw (dir, found, is)
