use Prim.Native.Nat.{ℕ, ◌+◌, ◌*◌, ◌≤◌, ◌<◌}
use mathlib.Core.Path.{◌≡◌, refl, sym, ◌∙◌}
use mathlib.Core.List.{List}
use mathlib.Core.Bool.{true, false}
use native.Mathlib.Omega.{arith}
use Rattle.records.specs.Rows.{every}
use Rattle.records.specs.Numbers.{four, zeros}
use Rattle.records.specs.NumberLaws.{zeros-four, zeros-other}
use borrow.Author.Rules.{rules}
use Rattle.records.proofs.fours_zero.Goals as goal

none : (l : List ℕ) (at : ℕ) → zeros l at (4 * 0) ≡ true
unfolding zeros every
none l at = refl

module _ (l : List ℕ) (at n k v : ℕ) (read : v ≡ four l (at + 4 * k)) where
  not_zero : k < n → (v ≡ 0 → ⊥) → false ≡ zeros l at (4 * n)
  not_zero h e = sym (zeros-other l at k n h (λ z. e (read ∙ z)))

  four_more : zeros l at (4 * k) ≡ true → v ≡ 0 → zeros l at (4 * (k + 1)) ≡ true
  four_more so_far e = zeros-four l at k so_far (sym read ∙ e)

all : (l : List ℕ) (at n k : ℕ) → k ≤ n → n ≤ k → zeros l at (4 * k) ≡ true → true ≡ zeros l at (4 * n)
all l at n k h g so_far = let e : k ≡ n = omega arith in sym (rw e at so_far)

pub loop-k-init : goal.loop-k-init
loop-k-init c = (search rules, none _ _)

pub returns-then-four_at-ne0 : goal.returns-then-four_at-ne0
returns-then-four_at-ne0 c = search (not_zero, rules)

pub loop-k-preserved : goal.loop-k-preserved
loop-k-preserved c = (search rules, search four_more)

pub returns : goal.returns
returns c = search (all, rules)
