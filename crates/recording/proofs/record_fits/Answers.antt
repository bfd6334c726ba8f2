-- A record within the directory takes no block; one at its end makes it 16 bytes longer.
use Prim.Native.Nat.{ℕ, ◌+◌, ◌-◌, ◌*◌, ◌≤◌, ◌<◌, max}
use mathlib.Core.Path.{◌≡◌, sym, ◌∙◌}
use mathlib.Core.List.{List}
use mathlib.Core.Bool.{true}
use native.Mathlib.Omega.{arith}
use borrow.Author.Tests.{lt-ltb, le-ltb}
use Rattle.meaning.specs.File.{needed, longest}
use Rattle.meaning.specs.Store.{is_directory}
use Rattle.meaning.specs.Tables.{file_length}
use Rattle.meaning.specs.Result.{unless}
use Rattle.meaning.specs.declared.Report.TheVariants.{NoRoom, TooBig}
use Rattle.tables.specs.Read.{FileRead}
use Rattle.tables.specs.StoreLaws.{file-length}
use Rattle.tables.specs.Searches.{free_block_count}
use Rattle.tables.specs.declared.FileRecord.{FileRecord}
use Rattle.soundness.specs.Seen.{files_store}
use Rattle.lookup.specs.LookLaws.{directory_there}
use Rattle.recording.specs.Fit.{FitsIn, if_fits_in}
use Rattle.std.specs.Prelude.{Ok, Err}
use Rattle.recording.proofs.record_fits.Goals as goal

module _ (records files : List ℕ) (d i : ℕ) (is : is_directory (files_store files) d ≡ true) (few : (file_length files d ≤ 32768) × (i ≤ 2048))
    (r : FileRecord) (read : FileRead files (d - 1) r) where
  abbrev size : ℕ
  size = file_length files d

  its_size : r.length ≡ size
  its_size = read.length ∙ sym (file-length files d (directory_there files d is).0)

  short : r.length ≤ 32768
  short = omega (arith, its_size, few)

  within : 16 * i + 16 ≤ r.length → FitsIn (free_block_count records) size (max size (16 * i + 16)) (Ok tt)
  within h = let e = its_size in (omega (arith, few), omega arith)

  module _ (past : r.length < 16 * i + 16) where
    too_big : 32768 < 16 * i + 16 → FitsIn (free_block_count records) size (max size (16 * i + 16)) (Err TooBig)
    unfolding if_fits_in unless
    too_big h result = let e = its_size in rw (lt-ltb longest (max size (16 * i + 16)) (omega arith))

    module _ (small : 16 * i + 16 ≤ 32768) (free : ℕ) (counted : free ≡ free_block_count records)
        (all : ℕ) (is_all : all ≡ needed (16 * i + 16)) (had : ℕ) (is-had : had ≡ needed r.length) where
      no_room : free < all - had → FitsIn (free_block_count records) size (max size (16 * i + 16)) (Err NoRoom)
      unfolding if_fits_in unless
      no_room h result =
          let e = its_size in
          rw (le-ltb longest (max size (16 * i + 16)) (omega arith), lt-ltb (free_block_count records) (needed (max size (16 * i + 16)) - needed size) (omega arith))

      fits : all - had ≤ free → FitsIn (free_block_count records) size (max size (16 * i + 16)) (Ok tt)
      fits h = let e = its_size in (omega arith, omega arith)

pub file_record-size-requires : goal.file_record-size-requires
file_record-size-requires c = search directory_there

pub returns-then-end-size : goal.returns-then-end-size
returns-then-end-size c = search within

pub returns-then-end : goal.returns-then-end
returns-then-end c = search too_big

pub returns-then-count_free_blocks-places : goal.returns-then-count_free_blocks-places
returns-then-count_free_blocks-places c = search no_room

pub returns : goal.returns
returns c = search fits
