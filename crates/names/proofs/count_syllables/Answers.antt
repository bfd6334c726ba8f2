use Prim.Native.Nat.{ℕ, ◌+◌, ◌≤◌, ◌<◌}
use mathlib.Core.Path.{◌≡◌, sym, ap, ◌∙◌}
use mathlib.Core.Bool.{Bool, true, false, not}
use mathlib.Core.List.{List, ◌∷◌}
use native.Mathlib.Omega.{arith}
use borrow.Author.Tests.{not-true, not-false}
use lib.ListN.{length, drop}
use Rattle.meaning.specs.Name.{is_syllable, split, syllables}
use Rattle.std.specs.Prelude.{Some, None}
use Rattle.paths.specs.Taking.{syllable_end, behind}
use Rattle.paths.specs.TakingLaws.{behind-slash}
use Rattle.names.specs.Syllables.{part, rest_from, form_of, form_with}
use Rattle.names.specs.SyllableLaws.{end_low, end-within, split_from, rest-slash, rest_end}
use Rattle.names.specs.FormLaws.{form_start, form_bad, form-next, form_done, form_many}
use borrow.Author.Rules.{rules}
use Rattle.names.proofs.count_syllables.Goals as goal

module _ (name : List ℕ) (at k : ℕ) (inside : at ≤ length name) (so_far : form_of (syllables name) ≡ form_with k (split (drop at name))) where
  pieces : form_of (syllables name) ≡ form_with k (part name at (syllable_end name at) ∷ rest_from name (syllable_end name at))
  pieces = so_far ∙ ap (form_with k) (split_from name at inside)

  end-behind : (end : ℕ) → end ≡ syllable_end name at → at ≤ end
  end-behind end e = rw e (end_low name at)

  end_inside : (end : ℕ) → end ≡ syllable_end name at → end ≤ length name
  end_inside end e = rw e (end-within name at inside)

  too_many : 8 ≤ k → None ≡ form_of (syllables name)
  too_many h = sym (pieces ∙ form_many k (part name at (syllable_end name at)) (rest_from name (syllable_end name at)) h)

  module _ (end : ℕ) (isEnd : end ≡ syllable_end name at) (t : Bool) (isT : t ≡ is_syllable (part name at end)) where
    no_syllable : not t ≡ true → None ≡ form_of (syllables name)
    no_syllable e =
        sym (pieces ∙ form_bad k (part name at (syllable_end name at)) (rest_from name (syllable_end name at)) (rw isEnd at (sym isT ∙ not-true t e)))

    module _ (e : not t ≡ false) where
      is : is_syllable (part name at end) ≡ true
      is = sym isT ∙ not-false t e

      counted : form_of (syllables name) ≡ form_with (k + 1) (rest_from name end)
      counted =
          rw isEnd (pieces ∙ form-next k (part name at (syllable_end name at)) (rest_from name (syllable_end name at)) (rw isEnd at is))

      last_one : k < 8 → end ≡ length name → Some (k + 1) ≡ form_of (syllables name)
      last_one h q = sym (counted ∙ ap (form_with (k + 1)) (rest_end name end (omega arith)) ∙ form_done (k + 1) (omega arith))

      module _ (d : end ≡ length name → ⊥) (next : ℕ) (left : next ≡ behind name (syllable_end name at)) where
        next_is : next ≡ end + 1
        next_is = left ∙ ap (behind name) (sym isEnd) ∙ behind-slash name end (omega (arith, end_inside end isEnd))

        next_inside : next ≤ length name
        next_inside = omega (arith, next_is, end_inside end isEnd)

        next_one : form_of (syllables name) ≡ form_with (k + 1) (split (drop next name))
        next_one = rw next_is (counted ∙ ap (form_with (k + 1)) (rest-slash name end (omega (arith, end_inside end isEnd))))

pub loop-k-init : goal.loop-k-init
loop-k-init c = (search rules, (search rules, search form_start))

pub slice_bounds-is_syllable-count : goal.slice_bounds-is_syllable-count
slice_bounds-is_syllable-count c = search (end-behind, rules)

pub slice_bounds-is_syllable-start : goal.slice_bounds-is_syllable-start
slice_bounds-is_syllable-start c = search (end-behind, rules)

pub slice_bounds-is_syllable-end : goal.slice_bounds-is_syllable-end
slice_bounds-is_syllable-end c = search (end_inside, rules)

pub returns-then-not-is_syllable : goal.returns-then-not-is_syllable
unfolding part
returns-then-not-is_syllable c = search no_syllable

pub returns-then-end-name : goal.returns-then-end-name
unfolding part
returns-then-end-name c = search last_one

pub loop-k-preserved : goal.loop-k-preserved
unfolding part
loop-k-preserved c = (search rules, (search next_inside, search next_one))

pub returns : goal.returns
returns c = search too_many
