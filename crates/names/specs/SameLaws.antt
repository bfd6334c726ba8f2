-- Laws of the test that two rows of bytes are the same.
use Rattle.std.specs.Prelude.{ℕ, ◌≡◌, refl, List, [], ◌∷◌, true, false, eqb}
use Rattle.std.proofs.Common.{ap₂, sym, true≢false, eq-eqb, eqb-true}
use Rattle.records.specs.Tests.{and_left, and_right, not_so}
use Rattle.meaning.specs.Name.{same}

pub same_is : (xs ys : List ℕ) → same xs ys ≡ true → xs ≡ ys
unfolding same
same_is [] [] e = refl
same_is [] (y ∷ ys) e = absurd (true≢false (sym e))
same_is (x ∷ xs) [] e = absurd (true≢false (sym e))
same_is (x ∷ xs) (y ∷ ys) e =
    ap₂ ◌∷◌ (eqb-true x y (and_left (eqb x y) (same xs ys) e)) (same_is xs ys (and_right (eqb x y) (same xs ys) e))

pub same_self : (xs : List ℕ) → same xs xs ≡ true
unfolding same
same_self [] = refl
same_self (x ∷ xs) = rw (eq-eqb x x refl) (same_self xs)

pub is_same : (xs ys : List ℕ) → xs ≡ ys → same xs ys ≡ true
is_same xs ys e = rw e (same_self ys)

pub not_same : (xs ys : List ℕ) → (xs ≡ ys → ⊥) → same xs ys ≡ false
not_same xs ys h = not_so (same xs ys) (λ e. h (same_is xs ys e))
