-- Runs of a file's bytes, where they lie in its blocks.
use Rattle.std.specs.Prelude.{ℕ, ◌+◌, ◌-◌, ◌*◌, ◌/◌, ◌%◌, ◌≤◌, ◌<◌, min, ◌≡◌, List, Bool, ◌&&◌, length, leb, ltb, eqb}
use Rattle.records.specs.Rows.{pick, how_many, list_of}
use Rattle.records.specs.Numbers.{one}
use Rattle.meaning.specs.Tables.{block_count, owner, place, holds, block_of}

-- byte k of the blocks is this byte of its file
abbrev pub byte_no : List ℕ → ℕ → ℕ
byte_no records k = 512 * place records (k / 512) + k % 512

-- and it is one of n bytes of file f, from byte `at` on
unfoldable pub in_run : List ℕ → ℕ → ℕ → ℕ → ℕ → Bool
in_run records f at n k =
    eqb (owner records (k / 512)) f && (leb at (byte_no records k) && ltb (byte_no records k) (at + n))

-- the blocks with a run of bytes laid into the places of file f, from byte `at` of the file on; all other bytes stay
unfoldable pub laid_run : List ℕ → List ℕ → ℕ → ℕ → List ℕ → List ℕ
laid_run blocks records f at bytes =
    list_of (length blocks) λ k.
    pick (in_run records f at (length bytes) k) (one bytes (byte_no records k - at)) (one blocks k)

-- each of n bytes of file f, from byte `at` on, has exactly one block, of no more blocks than 01 allows
pub record Housed (blocks records : List ℕ) (f at n : ℕ) : Type 0 where
  pub few : block_count records ≤ 128
  pub near : (k : ℕ) → at ≤ k → k < at + n → k < 65536
  pub whole : length blocks ≡ 512 * block_count records
  pub each : (k : ℕ) → at ≤ k → k < at + n → how_many (block_count records) (λ b. holds records f (k / 512) b) ≡ 1

-- how many of n bytes of a file, from byte k on, lie in one block
abbrev pub in_block : ℕ → ℕ → ℕ
in_block k n = min (512 - k % 512) n

-- as many of n bytes of file f, from byte k on, as lie in one block can be moved there from a list, from byte `start` of it on, or back
pub record Moving (blocks records : List ℕ) (f k n : ℕ) (bytes : List ℕ) (start : ℕ) : Type 0 where
  pub some : 0 < n
  pub housed : Housed blocks records f k n
  pub within : start + in_block k n ≤ length bytes

-- ---- bytes as they lie

-- byte k of file f
unfoldable pub byte_in : List ℕ → List ℕ → ℕ → ℕ → ℕ
byte_in blocks records f k = one blocks (512 * block_of records f (k / 512) + k % 512)

-- n bytes of file f, from byte `at` on
unfoldable pub run_of : List ℕ → List ℕ → ℕ → ℕ → ℕ → List ℕ
run_of blocks records f at n = list_of n (λ j. byte_in blocks records f (at + j))
