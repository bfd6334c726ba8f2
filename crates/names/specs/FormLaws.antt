-- How a walk from the left finds a name's form.
use Prim.Native.Nat.{ℕ, suc, ◌+◌, ◌≤◌, ◌<◌}
use Rattle.std.specs.Prelude.{◌≡◌, refl, List, [], ◌∷◌, Bool, true, false, ◌&&◌, Some, None, leb, drop, get_or}
use Rattle.std.proofs.Math.Option.{Option, none, some}
use native.Mathlib.Omega.{arith}
use Rattle.std.proofs.Math.ListN.{length}
use borrow.Author.Tests.{le-leb, lt-leb, eq-eqb, ne_eqb}
use Rattle.records.specs.Rows.{pick, every}
use Rattle.records.specs.Numbers.{one}
use Rattle.records.specs.RowLaws.{every_front}
use Rattle.records.specs.Tests.{and_false}
use Rattle.meaning.specs.Name.{slash, most_syllables, is_syllable, split, are_syllables, syllables}
use Rattle.names.specs.Syllables.{form_of, form_with}

-- ---- k syllables and the pieces that follow

module _ (k : ℕ) where
  pub form_done : k ≤ most_syllables → form_with k [] ≡ Some k
  unfolding form_with every
  form_done h =
      let z : k + 0 ≡ k = omega arith in
      rw (z, le-leb k 8 h)

  module _ (piece : List ℕ) (pieces : List (List ℕ)) where
    pub form_bad : is_syllable piece ≡ false → form_with k (piece ∷ pieces) ≡ None
    unfolding form_with
    form_bad e = rw (every_front (length pieces) (λ i. is_syllable (get_or (piece ∷ pieces) i [])), e, and_false (leb (k + suc (length pieces)) 8))

    pub form_many : most_syllables ≤ k → form_with k (piece ∷ pieces) ≡ None
    unfolding form_with
    form_many h = rw (lt-leb (k + suc (length pieces)) 8 (omega arith))

    pub form-next : is_syllable piece ≡ true → form_with k (piece ∷ pieces) ≡ form_with (k + 1) pieces
    unfolding form_with
    form-next e =
        let z : k + suc (length pieces) ≡ k + 1 + length pieces = omega arith in
        rw (every_front (length pieces) (λ i. is_syllable (get_or (piece ∷ pieces) i [])), e, z)

-- ---- the whole name

pub form_empty : (bytes : List ℕ) → length bytes ≡ 0 → form_of (syllables bytes) ≡ None
unfolding form_of syllables
form_empty [] h = refl
form_empty (b ∷ bytes) h = absurd (omega arith)

pub form-first : (bytes : List ℕ) → (one bytes 0 ≡ slash → ⊥) → form_of (syllables bytes) ≡ None
unfolding form_of syllables one
form-first [] h = refl
form-first (b ∷ []) h = rw (ne_eqb b slash h)
form-first (b ∷ c ∷ bytes) h = rw (ne_eqb b slash h)

pub form-root : (bytes : List ℕ) → length bytes ≡ 1 → one bytes 0 ≡ slash → form_of (syllables bytes) ≡ Some 0
unfolding form_of syllables one
form-root [] h e = absurd (omega arith)
form-root (b ∷ []) h e = rw (eq-eqb b slash e)
form-root (b ∷ c ∷ bytes) h e = absurd (omega arith)

-- a walk starts behind the first slash, with no syllable yet
pub form_start : (bytes : List ℕ) → 1 < length bytes → one bytes 0 ≡ slash → form_of (syllables bytes) ≡ form_with 0 (split (drop 1 bytes))
unfolding form_of syllables one are_syllables form_with
form_start [] h e = absurd (omega arith)
form_start (b ∷ []) h e = absurd (omega arith)
form_start (b ∷ c ∷ bytes) h e =
    let s = split (c ∷ bytes) in
    let z : 0 + length s ≡ length s = omega arith in
    rw (eq-eqb b slash e, z) (go (leb (length s) 8 && every (length s) (λ i. is_syllable (get_or s i []))) s)
  where
    go : (t : Bool) (s : List (List ℕ)) → form_of (pick t (some s) none) ≡ pick t (Some (length s)) None
    go true s = refl
    go false s = refl

-- ---- what a form tells of the name

pub record Counted (read : Option (List (List ℕ))) (k : ℕ) : Type 0 where
  pub name : List (List ℕ)
  pub is : read ≡ some name
  pub count : length name ≡ k

pub form-counted : (read : Option (List (List ℕ))) (k : ℕ) → Some k ≡ form_of read → Counted read k
unfolding form_of
form-counted none k e = let z : ◌≡◌ {A = ℕ} 0 1 = cc in absurd (omega arith)
form-counted (some name) k e = record { name = name; is = refl; count = cc }

pub form_none : (read : Option (List (List ℕ))) → None ≡ form_of read → read ≡ none
unfolding form_of
form_none none e = refl
form_none (some name) e = let z : ◌≡◌ {A = ℕ} 0 1 = cc in absurd (omega arith)
