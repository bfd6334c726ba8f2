use Prim.Native.Nat.{ℕ, ◌+◌, ◌*◌, ◌/◌, ◌≤◌, ◌<◌}
use mathlib.Core.Path.{◌≡◌, sym, ◌∙◌}
use mathlib.Core.List.{List}
use mathlib.Core.Bool.{Bool, true, false, not, true≢false}
use native.Mathlib.Omega.{arith}
use borrow.Author.Tests.{eq-eqb, ne_eqb, not-true, not-false}
use Rattle.records.specs.Rows.{every}
use Rattle.records.specs.Numbers.{one, zeros}
use Rattle.records.specs.LoopLaws.{every-step, every_fail}
use Rattle.records.specs.NumberLaws.{zeros_less}
use Rattle.records.specs.Tests.{not_so}
use borrow.Author.Rules.{rules}
use mathlib.Core.Path.{ap}
use Rattle.records.proofs.zeros_at.Invariants.{is_zero}
use Rattle.records.proofs.zeros_at.Goals as goal

module _ (l : List ℕ) (at n i b : ℕ) (read : b ≡ one l (at + i)) where
  not_zero : i < n → (b ≡ 0 → ⊥) → false ≡ zeros l at n
  unfolding zeros
  not_zero h e = sym (every_fail (is_zero l at) i n h (ne_eqb (one l (at + i)) 0 (λ z. e (read ∙ z))))

  one_more : every i (is_zero l at) ≡ true → b ≡ 0 → every (i + 1) (is_zero l at) ≡ true
  one_more so_far e = every-step (is_zero l at) i so_far (eq-eqb (one l (at + i)) 0 (sym read ∙ e))

all_zero : (l : List ℕ) (at n i : ℕ) → i ≤ n → n ≤ i → every i (is_zero l at) ≡ true → true ≡ zeros l at n
unfolding zeros
all_zero l at n i h g so_far = let e : i ≡ n = omega arith in sym (rw e at so_far)

module _ (l : List ℕ) (at n : ℕ) (flag : Bool) (is : flag ≡ zeros l at (4 * (n / 4))) where
  fours_other : not flag ≡ true → false ≡ zeros l at n
  fours_other e =
      sym (not_so (zeros l at n) (λ z. true≢false (sym (is ∙ zeros_less l at n (4 * (n / 4)) (omega arith) z) ∙ not-true flag e)))

  fours : not flag ≡ false → every (4 * (n / 4)) (is_zero l at) ≡ true
  unfolding zeros
  fours e = sym is ∙ not-false flag e

pub returns-then-not-fours_zero : goal.returns-then-not-fours_zero
returns-then-not-fours_zero c = fours_other _ _ _ _ c.fours_zero.ensures (ap not c.if-not-fours_zero.true)

pub loop-i-init : goal.loop-i-init
loop-i-init c = (search rules, fours _ _ _ _ c.fours_zero.ensures (ap not c.if-not-fours_zero.false))

pub returns-then-one_at-ne0 : goal.returns-then-one_at-ne0
returns-then-one_at-ne0 c = search (not_zero, rules)

pub loop-i-preserved : goal.loop-i-preserved
loop-i-preserved c = (search rules, search one_more)

pub returns : goal.returns
returns c = search (all_zero, rules)
