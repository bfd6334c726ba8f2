-- A directory of a sound store in the block table: its records lie there.
use Rattle.std.specs.Prelude.{ℕ, ◌+◌, ◌*◌, ◌/◌, ◌≤◌, ◌<◌, ◌≡◌, true, length}
use Rattle.std.proofs.Common.{arith}
use Rattle.meaning.specs.File.{needed}
use Rattle.meaning.specs.Name.{record_count}
use Rattle.meaning.specs.Store.{is_directory}
use Rattle.meaning.specs.Tables.{Tables, store_of, file_length}
use Rattle.layout.specs.Layout.{Layout, length-file}
use Rattle.layout.specs.Places.{block_there, block_inside}
use Rattle.soundness.specs.Well.{Well}
use Rattle.soundness.specs.WellFacts.{directory-form, directory-length}
use Rattle.directories.specs.Places.{record_place}
use Rattle.directories.specs.Find.{Lies}

module _ (t : Tables) (L : Layout t) (w : Well (store_of t)) (d : ℕ) (is : is_directory (store_of t) d ≡ true) where
  -- a directory's length, as its record has it
  size : length ((store_of t).file d).bytes ≡ file_length t.file_records d
  unfolding store_of
  size = length-file t d

  whole : length ((store_of t).file d).bytes ≡ 16 * record_count ((store_of t).file d).bytes
  whole = directory-length (store_of t) w d is

  -- the block of a run of 32 records
  run_there : (k : ℕ) → 32 * k < record_count ((store_of t).file d).bytes → k < needed (file_length t.file_records d)
  run_there k h = omega (arith, size, whole)

  pub directory_lies : Lies t.blocks t.block_records d (record_count ((store_of t).file d).bytes)
  directory_lies =
      record {
        few-blocks = L.lengths.few-blocks;
        table = L.lengths.blocks;
        few = omega (arith, whole, (directory-form (store_of t) w d is).size);
        there = λ k h. block_there t L d k (run_there k h);
      }

  module _ (i : ℕ) (h : i < record_count ((store_of t).file d).bytes) where
    pub record_inside : record_place t.block_records d i + 16 ≤ length t.blocks
    unfolding record_place
    record_inside = omega (arith, block_inside t L d (i / 32) (run_there (i / 32) (omega arith)))
