-- What the searches over a directory's records find, off the block table.
use Rattle.std.specs.Prelude.{ℕ, ◌+◌, ◌*◌, ◌≤◌, ◌<◌, ◌≡◌, List, Bool, length}
use Rattle.records.specs.Rows.{lowest, how_many}
use Rattle.records.specs.Numbers.{zeros}
use Rattle.meaning.specs.Name.{same, entry_in}
use Rattle.meaning.specs.Tables.{block_count, block_of}
use Rattle.names.specs.RecordNames.{record_from}
use Rattle.directories.specs.Places.{record_place}

-- the `count` records of directory d lie in the block table: each run of 32 has a block, and there are no more blocks than 01 allows
pub record Lies (blocks records : List ℕ) (d count : ℕ) : Type 0 where
  pub few-blocks : block_count records ≤ 128
  pub table : length blocks ≡ 512 * block_count records
  pub few : count ≤ 2048
  pub there : (k : ℕ) → 32 * k < count → block_of records d k < block_count records

-- the record that starts at a place has a name
unfoldable pub named_at : List ℕ → List ℕ → ℕ → Bool
named_at blocks name at = same (entry_in (record_from blocks at)).name name

-- the record that starts at a place is blank
unfoldable pub blank_at : List ℕ → ℕ → Bool
blank_at blocks at = zeros blocks at 16

-- the lowest of n records from a place on that passes a test of places
unfoldable pub run_lowest : (ℕ → Bool) → ℕ → ℕ → ℕ
run_lowest test at n = lowest n (λ j. test (at + 16 * j))

-- the lowest record of directory d that passes a test of places
unfoldable pub place_lowest : (ℕ → Bool) → List ℕ → ℕ → ℕ → ℕ
place_lowest test records d count = lowest count (λ i. test (record_place records d i))

-- how many records of directory d pass a test of places
unfoldable pub place_passing : (ℕ → Bool) → List ℕ → ℕ → ℕ → ℕ
place_passing test records d count = how_many count (λ i. test (record_place records d i))
