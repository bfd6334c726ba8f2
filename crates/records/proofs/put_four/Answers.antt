-- Two numbers of two bytes, the low one first.
use Prim.Native.Nat.{ℕ, ◌+◌, ◌/◌, ◌%◌}
use mathlib.Core.Path.{◌≡◌}
use mathlib.Core.List.{List}
use native.Mathlib.Omega.{arith}
use lib.Seq.{sets}
use Rattle.records.specs.Numbers.{two_bytes, four_bytes}
use Rattle.records.specs.NumberLaws.{length-two_bytes, low_half}
use Rattle.records.specs.RecordLaws.{sets-append}
use Rattle.records.proofs.put_four.Goals as goal

low_then_high : (l l₁ l₂ : List ℕ) (at x : ℕ) → l₁ ≡ sets l at (two_bytes (x % 65536)) → l₂ ≡ sets l₁ (at + 2) (two_bytes (x / 65536)) → l₂ ≡ sets l at (four_bytes x)
unfolding four_bytes
low_then_high l l₁ l₂ at x p q =
    rw (q, p, low_half) (sets-append (two_bytes x) (two_bytes (x / 65536)) l at (at + 2) (omega (arith, length-two_bytes x)))

pub returns : goal.returns
returns c = search low_then_high
