-- Rules that must all hold, as the code tests them, `a && b`: b where a holds, and else false. `flag` is what was found of a.
use Rattle.std.specs.Prelude.{ℕ, ◌≡◌, refl, ◌≢◌, List, [], ◌∷◌, Bool, true, false, not, ◌&&◌, ◌||◌, eqb}
use Rattle.std.proofs.Common.{sym, ◌∙◌}
use Rattle.std.proofs.Math.Bool.{and-true, and_assoc}
use Rattle.records.specs.Rows.{all_of}
use borrow.Author.Tests.{eq-eqb, ne_eqb}

module _ (a b flag value : Bool) (is : flag ≡ a) where
  pub met : flag ≡ true → value ≡ b → value ≡ a && b
  met e v = v ∙ rw (sym is ∙ e)

  pub unmet : flag ≡ false → value ≡ flag → value ≡ a && b
  unmet e v = v ∙ e ∙ rw (sym is ∙ e)

  -- and one that need not be tested where another does not ask for it, `!a || b`
  pub asked : flag ≡ true → value ≡ b → value ≡ not a || b
  asked e v = v ∙ rw (sym is ∙ e)

  pub unasked : flag ≡ false → value ≡ not flag → value ≡ not a || b
  unasked e v = v ∙ rw (e, sym is ∙ e)

  -- and `a || b`
  pub held_or : flag ≡ true → value ≡ flag → value ≡ a || b
  held_or e v = v ∙ e ∙ rw (sym is ∙ e)

  pub asked_or : flag ≡ false → value ≡ b → value ≡ a || b
  asked_or e v = v ∙ rw (sym is ∙ e)

-- the same where the first rule is that two numbers are the same
module _ (x y : ℕ) (b value : Bool) where
  pub equal_met : x ≡ y → value ≡ b → value ≡ eqb x y && b
  equal_met e v = v ∙ rw (eq-eqb x y e)

  pub equal_unmet : x ≢ y → value ≡ eqb x y → value ≡ eqb x y && b
  equal_unmet d v = unmet (eqb x y) b (eqb x y) value refl (ne_eqb x y d) v

-- a rule and those behind it, as `a && b && c` has them
abbrev pub in_turn : Bool → List Bool → Bool
in_turn a [] = a
in_turn a (rule ∷ rules) = in_turn (a && rule) rules

pub in_turn_all : (a : Bool) (rules : List Bool) → in_turn a rules ≡ all_of (a ∷ rules)
unfolding all_of
in_turn_all a [] = sym (and-true a)
in_turn_all a (rule ∷ rules) = in_turn_all (a && rule) rules ∙ and_assoc a rule (all_of rules)
