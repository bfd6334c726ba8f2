-- Where a directory's records lie in the block table: record i in the block that is place i / 32, 16 bytes each.
use Rattle.std.specs.Prelude.{ℕ, zero, suc, ◌+◌, ◌*◌, ◌/◌, ◌%◌, ◌≤◌, ◌<◌, ◌≡◌, List, length}
use Rattle.std.proofs.Math.Path.{ap}
use Rattle.std.proofs.Common.{◌∙◌}
use native.Mathlib.Omega.{arith}
use Rattle.records.specs.Numbers.{one, zeros}
use Rattle.records.specs.ListLaws.{get_or-list_of, length-list_of}
use Rattle.meaning.specs.Name.{record_at, entry_at, is_blank, entry_in}
use Rattle.meaning.specs.Tables.{Tables, block_of, byte_of, file_of, store_of, length_at}
use Rattle.names.specs.RecordNames.{record_from, record_at_lem, record_same, blank_same}

-- where record i of directory d starts in the block table
unfoldable pub record_place : List ℕ → ℕ → ℕ → ℕ
record_place records d i = 512 * block_of records d (i / 32) + 16 * (i % 32)

-- byte k of a file is where its block lies
pub byte_lies : (t : Tables) (f k : ℕ) → k < length ((store_of t).file f).bytes → one ((store_of t).file f).bytes k ≡ byte_of t f k
unfolding store_of file_of one
byte_lies t zero k h = absurd (omega arith)
byte_lies t (suc r) k h =
    let size = length-list_of (length_at t.file_records r) (λ j. byte_of t (suc r) j) in
    get_or-list_of (length_at t.file_records r) (λ j. byte_of t (suc r) j) k 0 (rw size at h)

module _ (t : Tables) (d i : ℕ) (whole : 16 * i + 16 ≤ length ((store_of t).file d).bytes) where
  -- the 16 bytes of record i, in the directory and in the block table
  record_bytes : (j : ℕ) → j < 16 → one ((store_of t).file d).bytes (16 * i + j) ≡ one t.blocks (record_place t.block_records d i + j)
  unfolding record_place byte_of
  record_bytes j h =
      let b : (16 * i + j) / 512 ≡ i / 32 = omega arith in
      let at : (16 * i + j) % 512 ≡ 16 * (i % 32) + j = omega arith in
      let lies = byte_lies t d (16 * i + j) (omega arith) in
      let place : 512 * block_of t.block_records d (i / 32) + (16 * (i % 32) + j) ≡ 512 * block_of t.block_records d (i / 32) + 16 * (i % 32) + j = omega arith in
      rw (b, at, place) at lies

  module _ (inside : record_place t.block_records d i + 16 ≤ length t.blocks) where
    pub record_there : record_at ((store_of t).file d).bytes i ≡ record_from t.blocks (record_place t.block_records d i)
    record_there =
        record_at_lem ((store_of t).file d).bytes i
        ∙ record_same ((store_of t).file d).bytes t.blocks (16 * i) (record_place t.block_records d i) record_bytes whole inside

    pub entry_there : entry_at ((store_of t).file d).bytes i ≡ entry_in (record_from t.blocks (record_place t.block_records d i))
    unfolding entry_at
    entry_there = ap entry_in record_there

  pub blank_there : is_blank ((store_of t).file d).bytes i ≡ zeros t.blocks (record_place t.block_records d i) 16
  unfolding is_blank
  blank_there = blank_same ((store_of t).file d).bytes t.blocks (16 * i) (record_place t.block_records d i) record_bytes
