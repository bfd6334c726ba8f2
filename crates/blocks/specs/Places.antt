-- One block record at a time: a place let go, a place taken.
use Rattle.std.specs.Prelude.{ℕ, ◌*◌, ◌≤◌, ◌≡◌, List, length}
use Rattle.records.specs.Rows.{pick, tally}
use Rattle.records.specs.Numbers.{with_record}
use Rattle.meaning.specs.Tables.{block_count, block_record, is_free}
use Rattle.layout.specs.Releasing.{is_gone}

-- the block records with block b let go, if it is a place of file f from n on
unfoldable pub released_at : List ℕ → ℕ → ℕ → ℕ → List ℕ
released_at records f n b = pick (is_gone records f n b) (with_record 4 records b (block_record 0 0)) records

-- the block records with block b as place i of file f, if it is free
unfoldable pub taken_at : List ℕ → ℕ → ℕ → ℕ → List ℕ
taken_at records f i b = pick (is_free records b) (with_record 4 records b (block_record f i)) records

-- a table of block records, each whole, and no more of them than 01 allows
pub record WholeRecords (records : List ℕ) : Type 0 where
  pub few : block_count records ≤ 128
  pub whole : length records ≡ 4 * block_count records

-- block b was taken, if it was free: how many blocks that is, and the block records afterwards
pub record Took (records after : List ℕ) (f i b r : ℕ) : Type 0 where
  pub count : r ≡ tally (is_free records b)
  pub left : after ≡ taken_at records f i b
