-- The parts of the record, one right after the other, are the record.
use Prim.Native.Nat.{ℕ, ◌+◌, ◌*◌}
use mathlib.Core.Path.{◌≡◌}
use mathlib.Core.List.{List}
use native.Mathlib.Omega.{arith}
use lib.Seq.{sets}
use Rattle.records.specs.Numbers.{two_bytes, with_record}
use Rattle.records.specs.NumberLaws.{length-two_bytes}
use Rattle.records.specs.RecordLaws.{then_sets}
use Rattle.meaning.specs.Tables.{block_record}
use Rattle.tables.proofs.put_block_record.Goals as goal

in_parts : (l l₁ l₂ : List ℕ) (b f i : ℕ) → l₁ ≡ sets l (4 * b) (two_bytes f) → l₂ ≡ sets l₁ (4 * b + 2) (two_bytes i)
    → l₂ ≡ with_record 4 l b (block_record f i)
unfolding with_record block_record
in_parts l l₁ l₂ b f i p q = then_sets (two_bytes f) (two_bytes i) l l₁ l₂ (4 * b) (4 * b + 2) (omega (arith, length-two_bytes f)) p q

pub returns : goal.returns
returns c = search in_parts
