-- Two stores, the low byte first: x fits two bytes.
use Prim.Native.Nat.{ℕ, ◌+◌, ◌/◌, ◌%◌, ◌<◌}
use mathlib.Core.Path.{◌≡◌}
use mathlib.Core.List.{List, [], ◌∷◌}
use native.Mathlib.Numerals.{add-one}
use native.Mathlib.Omega.{arith}
use lib.Seq.{sets}
use Rattle.records.specs.Numbers.{two_bytes}
use borrow.Author.Rules.{rules}
use Rattle.records.proofs.put_two.Goals as goal

low_then_high : (l l₁ l₂ : List ℕ) (at x : ℕ) → x < 65536 → l₁ ≡ sets l at (x % 256 ∷ []) → l₂ ≡ sets l₁ (at + 1) (x / 256 ∷ []) → l₂ ≡ sets l at (two_bytes x)
unfolding two_bytes
low_then_high l l₁ l₂ at x h p q =
    let e : x / 256 % 256 ≡ x / 256 = omega arith in
    rw (q, p, e, add-one)

pub returns : goal.returns
returns c = search (low_then_high, rules)
