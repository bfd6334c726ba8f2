use Prim.Native.Nat.{ℕ, ◌%◌, ◌≤◌, ◌<◌}
use mathlib.Core.Path.{◌≡◌, refl, ◌∙◌}
use mathlib.Core.Bool.{Bool, true, false, beq, ◌&&◌}
use mathlib.Core.Logic.{◌⊎◌, ⊎_elim}
use Rattle.records.specs.Tests.{and_false}
use borrow.Author.Tests.{le-leb, lt-leb}
use lib.Dec.{leb, eqb}
use Rattle.records.specs.Rows.{agree}
use Rattle.meaning.specs.File.{longest}
use Rattle.soundness.specs.Rules.{directory_form}
use Rattle.soundness.specs.Together.{met, unmet}
use Rattle.soundness.proofs.forms.directory_form.Goals as goal
use Rattle.soundness.proofs.forms.directory_form.Goals.{Joined-size-le-LONGEST, then-size-le-LONGEST, else-size-le-LONGEST}

alike : (a b : Bool) → beq a b ≡ agree a b
alike true true = refl
alike true false = refl
alike false true = refl
alike false false = refl

abbrev sized : ℕ → ℕ → Bool
sized depth size = leb depth 7 && leb size longest && eqb (size % 16) 0

module _ (depth size : ℕ) where
  fits : (depth ≤ 7) × (size ≤ 32768) → (value : Bool) → value ≡ eqb (size % 16) 0 → value ≡ sized depth size
  fits h value v = v ∙ rw (le-leb depth 7 h.0, le-leb size longest h.1)

  too_much : ((depth ≤ 7) × (32768 < size)) ⊎ (7 < depth) → (value : Bool) → value ≡ false → value ≡ sized depth size
  too_much h value v =
      v ∙ ⊎_elim
      (λ (l : (depth ≤ 7) × (32768 < size)). rw (lt-leb size longest l.1, and_false (leb depth 7)))
      (λ (d : 7 < depth). rw (lt-leb depth 7 d)) h

so_far : (c : Joined-size-le-LONGEST) → c.if-size-le-LONGEST.value ≡ sized c.args.depth c.args.size
so_far c =
    elim c.if-size-le-LONGEST.branch [
      | then-size-le-LONGEST w ↦ fits _ _ w.if-size-le-LONGEST.true _ w.value-is
      | else-size-le-LONGEST w ↦ let no : c.if-size-le-LONGEST.value ≡ false = cc in too_much _ _ w.if-size-le-LONGEST.either _ no
    ]

pub returns-then-size-eq0 : goal.returns-then-size-eq0
unfolding directory_form
returns-then-size-eq0 c = met _ _ _ _ (so_far (goal.at.returns-then-size-eq0 c).Joined-size-le-LONGEST) c.if-size-eq0.true (alike _ _)

pub returns-else-size-eq0 : goal.returns-else-size-eq0
unfolding directory_form
returns-else-size-eq0 c = unmet _ _ _ _ (so_far (goal.at.returns-else-size-eq0 c).Joined-size-le-LONGEST) c.if-size-eq0.false refl
