-- Laws of the list that a rule makes, and of a list from a place on.
use Prim.Native.Nat.{ℕ, zero, suc, ◌+◌, ◌≤◌, ◌<◌}
use Rattle.std.specs.Prelude.{◌≡◌, length, get_or, drop}
use Rattle.std.proofs.Math.Path.{refl, ap, ap₂}
use Rattle.std.proofs.Common.{sym, ◌∙◌, ext_get_or, drop-cons}
use mathlib.Core.List.{List, [], ◌∷◌}
use native.Mathlib.Omega.{arith}
use Rattle.records.specs.Rows.{list_of, list_from}
use Rattle.records.specs.Numbers.{one}

-- ---- the list that a rule makes

module _ {A : Type 0} where
  length_from : (i n : ℕ) (g : ℕ → A) → length (list_from i n g) ≡ n
  unfolding list_from
  length_from i zero g = refl
  length_from i (suc n) g = ap suc (length_from (suc i) n g)

  pub length-list_of : (n : ℕ) (g : ℕ → A) → length (list_of n g) ≡ n
  unfolding list_of
  length-list_of n g = length_from 0 n g

  get_or-from : (i n : ℕ) (g : ℕ → A) (k : ℕ) (d : A) → k < n → get_or (list_from i n g) k d ≡ g (i + k)
  unfolding list_from
  get_or-from i zero g k d h = absurd (omega arith)
  get_or-from i (suc n) g zero d h = ap g (let z : i ≡ i + 0 = omega arith in z)
  get_or-from i (suc n) g (suc k) d h = get_or-from (suc i) n g k d (omega arith) ∙ ap g (let z : suc i + k ≡ i + suc k = omega arith in z)

  pub get_or-list_of : (n : ℕ) (g : ℕ → A) (k : ℕ) (d : A) → k < n → get_or (list_of n g) k d ≡ g k
  unfolding list_of
  get_or-list_of n g k d h = get_or-from 0 n g k d h ∙ ap g (let z : 0 + k ≡ k = omega arith in z)

  -- a list is what a rule makes if it has the length and each element is the rule's
  pub is_list_of : (n : ℕ) (g : ℕ → A) (d : A) (l : List A) → length l ≡ n → ((k : ℕ) → k < n → g k ≡ get_or l k d) → list_of n g ≡ l
  is_list_of n g d l e h =
      ext_get_or d (list_of n g) l (length-list_of n g ∙ sym e)
      (λ k b. let b' : k < n = rw length-list_of at b in get_or-list_of n g k d b' ∙ h k b')

  list_from_cong : (i n : ℕ) (g h : ℕ → A) → ((k : ℕ) → i ≤ k → k < i + n → g k ≡ h k) → list_from i n g ≡ list_from i n h
  unfolding list_from
  list_from_cong i zero g h e = refl
  list_from_cong i (suc n) g h e =
      ap₂ ◌∷◌ (e i (omega arith) (omega arith)) (list_from_cong (suc i) n g h (λ k l b. e k (omega arith) (omega arith)))

  pub list_of_cong : (n : ℕ) (g h : ℕ → A) → ((k : ℕ) → k < n → g k ≡ h k) → list_of n g ≡ list_of n h
  unfolding list_of
  list_of_cong n g h e = list_from_cong 0 n g h (λ k l b. e k (omega arith))

-- ---- a list from a place on

module _ {A : Type 0} where
  pub drop_none : (l : List A) (n : ℕ) → length l ≤ n → drop n l ≡ []
  drop_none [] zero h = refl
  drop_none [] (suc n) h = refl
  drop_none (x ∷ l) zero h = absurd (omega arith)
  drop_none (x ∷ l) (suc n) h = drop_none l n (omega arith)

-- the byte at a place, and those behind it
pub drop-one : (bytes : List ℕ) (at : ℕ) → at < length bytes → drop at bytes ≡ one bytes at ∷ drop (suc at) bytes
unfolding one
drop-one bytes at h = drop-cons bytes at 0 h
