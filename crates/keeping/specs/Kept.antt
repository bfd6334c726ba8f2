-- What every call keeps (01, "Tables the host lends"): the statements. Their proofs are in Proofs.antt.
use Rattle.std.specs.Prelude.{ℕ, suc, ◌+◌, ◌≡◌, List, [], ◌∷◌, true, length}
use Rattle.records.specs.Rows.{pick, how_many, sum}
use Rattle.meaning.specs.File.{needed}
use Rattle.meaning.specs.Store.{Store, in_use, free_blocks, blocks_needed}
use Rattle.meaning.specs.Tables.{Tables, store_of, block_count, is_free}
use Rattle.meaning.specs.Sound.{sound, lengths_agree}
use Rattle.meaning.specs.Run.{Call, Prepare, accepts, run}

-- the tables after a call, and after a row of calls, each on the tables that those before it leave
abbrev pub tables_after : Call → Tables → List ℕ → Tables
tables_after call t buffer = (run call t buffer).tables

unfoldable pub tables_after_all : List Call → Tables → Tables
tables_after_all [] t = t
tables_after_all (call ∷ calls) t = tables_after_all calls (tables_after call t [])

-- block records that are all zero
abbrev pub free_records : Tables → ℕ
free_records t = how_many (block_count t.block_records) (λ b. is_free t.block_records b)

-- the sum over files in use of length / 512, rounded up
abbrev pub needed_in_use : Store → ℕ
needed_in_use s = sum s.file_count (λ i. pick (in_use s (suc i)) (needed (length (s.file (suc i)).bytes)) 0)

-- ---- the statements

-- a sound store stays sound, whatever the call, accepted or refused; and so after every row of calls
abbrev pub SoundKept : Type 0
SoundKept = (call : Call) (t : Tables) (buffer : List ℕ) → sound t ≡ true → sound (tables_after call t buffer) ≡ true

abbrev pub RowsKept : Type 0
RowsKept = (calls : List Call) (t : Tables) → sound t ≡ true → sound (tables_after_all calls t) ≡ true

-- prepare makes a sound store of any tables whose lengths agree
abbrev pub PrepareSound : Type 0
PrepareSound = (t : Tables) (buffer : List ℕ) → lengths_agree t ≡ true → sound (tables_after Prepare t buffer) ≡ true

-- after every accepted call, free blocks plus the sum over files in use of length / 512, rounded up, is B, as it was before
abbrev pub RoomKept : Type 0
RoomKept =
    (call : Call) (t : Tables) (buffer : List ℕ) → accepts call t ≡ true
    → free_records (tables_after call t buffer) + needed_in_use (store_of (tables_after call t buffer)) ≡ block_count t.block_records

-- the same in the store's own counts, which room answers
abbrev pub StoreRoomKept : Type 0
StoreRoomKept =
    (call : Call) (t : Tables) (buffer : List ℕ) → accepts call t ≡ true
    → free_blocks (store_of (tables_after call t buffer)) + blocks_needed (store_of (tables_after call t buffer)) ≡ block_count t.block_records
