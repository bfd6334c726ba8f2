-- Bytes laid into a file's places: what `laid` does to each byte of the blocks.
use Rattle.std.specs.Prelude.{ℕ, ◌+◌, ◌*◌, ◌/◌, ◌%◌, ◌≤◌, ◌<◌, ◌≡◌, ◌≢◌, List, ◌&&◌, length, ltb, eqb}
use Rattle.std.proofs.Common.{◌∙◌, eq-eqb, ne_eqb, lt-ltb}
use native.Mathlib.Omega.{arith}
use Rattle.records.specs.Rows.{pick}
use Rattle.records.specs.Numbers.{one}
use Rattle.records.specs.ListLaws.{length-list_of, get_or-list_of}
use Rattle.meaning.specs.Tables.{owner, place, laid}

module _ (blocks R : List ℕ) (f : ℕ) (bytes : List ℕ) where
  pub length-laid : length (laid blocks R f bytes) ≡ length blocks
  unfolding laid
  length-laid = length-list_of (length blocks) _

  -- byte j of block b
  module _ (b j : ℕ) (within : 512 * b + 512 ≤ length blocks) (inside : j < 512) where
    pub laid-at : one (laid blocks R f bytes) (512 * b + j)
        ≡ pick (eqb (owner R b) f && ltb (512 * place R b + j) (length bytes)) (one bytes (512 * place R b + j)) (one blocks (512 * b + j))
    unfolding one laid
    laid-at =
        let d : (512 * b + j) / 512 ≡ b = omega arith in
        let m : (512 * b + j) % 512 ≡ j = omega arith in
        get_or-list_of (length blocks) _ (512 * b + j) 0 (omega arith) ∙ rw (d, m)

    -- byte k of f, if that is what it is
    pub laid_own : (k : ℕ) → owner R b ≡ f → 512 * place R b + j ≡ k → k < length bytes → one (laid blocks R f bytes) (512 * b + j) ≡ one bytes k
    laid_own k o e u = laid-at ∙ rw (eq-eqb (owner R b) f o, e, lt-ltb k (length bytes) u)

    -- else it stays: in the blocks of other files and in free blocks
    pub laid-other : owner R b ≢ f → one (laid blocks R f bytes) (512 * b + j) ≡ one blocks (512 * b + j)
    laid-other o = laid-at ∙ rw (ne_eqb (owner R b) f o)
