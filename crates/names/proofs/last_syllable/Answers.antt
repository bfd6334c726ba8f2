-- A syllable that ends where the name does is the last one; any other has a slash behind it, where the walk goes on.
use Prim.Native.Nat.{ℕ, ◌+◌, ◌-◌, ◌≤◌, ◌<◌}
use mathlib.Core.Path.{◌≡◌, sym, ap, ◌∙◌}
use mathlib.Core.List.{List}
use native.Mathlib.Omega.{arith}
use lib.ListN.{length}
use Rattle.paths.specs.Taking.{syllable_end, behind}
use Rattle.paths.specs.TakingLaws.{ends, behind-slash}
use Rattle.names.specs.Syllables.{part, last_start}
use Rattle.names.specs.SyllableLaws.{end_low, end-within}
use Rattle.names.specs.LastSyllable.{start_is}
use borrow.Author.Rules.{rules}
use Rattle.names.proofs.last_syllable.Invariants.{Behind}
use Rattle.names.proofs.last_syllable.Goals as goal

module _ (name : List ℕ) (at : ℕ) (inside : at ≤ length name) (so_far : Behind name at) (end : ℕ) (isEnd : end ≡ syllable_end name at) where
  last_one : end ≡ length name → at ≡ last_start name
  last_one e = sym (start_is name at inside so_far (sym isEnd ∙ e))

  module _ (d : end ≡ length name → ⊥) (next : ℕ) (left : next ≡ behind name (syllable_end name at)) where
    within : end < length name
    within = omega (arith, isEnd, end-within name at inside)

    next_is : next ≡ end + 1
    next_is = left ∙ ap (behind name) (sym isEnd) ∙ behind-slash name end within

    next_inside : next ≤ length name
    next_inside = omega (arith, next_is, within)

    next-behind : Behind name next
    next-behind h =
        let z : next - 1 ≡ end = omega (arith, next_is) in
        rw (z, isEnd) ((ends name at).hit (omega (arith, isEnd, within)))

    next_less : length name - next < length name - at
    next_less = omega (arith, next_is, isEnd, end_low name at, within)

pub loop-taken-init : goal.loop-taken-init
loop-taken-init c = (search rules, λ (h : 0 < 0). absurd (omega arith))

pub returns-then-taken-name : goal.returns-then-taken-name
unfolding part
returns-then-taken-name c = rw (sym (last_one _ _ (search rules) (search rules) _ c.take_syllable-taken.ensures.0 c.if-taken-name.true))

pub loop-taken-smaller : goal.loop-taken-smaller
loop-taken-smaller c = search next_less

pub loop-taken-preserved : goal.loop-taken-preserved
loop-taken-preserved c = (search next_inside, search next-behind)
