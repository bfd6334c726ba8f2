-- Places let go: what `released` does to each block record. Places of other files stay, and those of f below n.
use Rattle.std.specs.Prelude.{ℕ, ◌+◌, ◌*◌, ◌/◌, ◌≤◌, ◌<◌, ◌≡◌, ◌≢◌, ◌⊎◌, List, Bool, ◌&&◌, length, leb, eqb}
use Rattle.std.proofs.Math.Path.{refl, ap₂}
use Rattle.std.proofs.Common.{sym, ◌∙◌, inl, inr, ⊎_elim, eq-eqb, eqb-true, leb-true, leb-false}
use Rattle.std.proofs.Math.Bool.{true, false}
use native.Mathlib.Omega.{arith}
use Rattle.records.specs.Rows.{pick}
use Rattle.records.specs.Tests.{tested, and_left, and_right}
use Rattle.records.specs.Numbers.{one, two}
use Rattle.records.specs.ListLaws.{length-list_of, get_or-list_of}
use Rattle.meaning.specs.Tables.{owner, place, block_count, holds, is_free, released}
use Rattle.layout.specs.Blocks.{its_place, other-owner, other_place, Kept, kept_holds}

-- block b is a place of f from n on
abbrev pub is_gone : List ℕ → ℕ → ℕ → ℕ → Bool
is_gone R f n b = eqb (owner R b) f && leb n (place R b)

module _ (R : List ℕ) (f n : ℕ) where
  pub length-released : length (released R f n) ≡ length R
  unfolding released
  length-released = length-list_of (length R) _

  -- ---- each byte, each number

  pub byte_released : (k : ℕ) → k < length R → one (released R f n) k ≡ pick (is_gone R f n (k / 4)) 0 (one R k)
  unfolding one released
  byte_released k h = get_or-list_of (length R) _ k 0 h

  two-released : (b j : ℕ) → b < block_count R → 4 * b ≤ j → j + 2 ≤ 4 * b + 4 → two (released R f n) j ≡ pick (is_gone R f n b) 0 (two R j)
  unfolding two
  two-released b j h l u =
      let e : j / 4 ≡ b = omega arith in
      let e' : (j + 1) / 4 ≡ b = omega arith in
      let low : one (released R f n) j ≡ pick (is_gone R f n b) 0 (one R j) = rw e at (byte_released j (omega arith)) in
      let high : one (released R f n) (j + 1) ≡ pick (is_gone R f n b) 0 (one R (j + 1)) = rw e' at (byte_released (j + 1) (omega arith)) in
      ap₂ (λ (x y : ℕ). x + 256 * y) low high ∙ go (is_gone R f n b) (one R j) (one R (j + 1))
    where
      go : (t : Bool) (x y : ℕ) → pick t 0 x + 256 * pick t 0 y ≡ pick t 0 (x + 256 * y)
      go true x y = refl
      go false x y = refl

  module _ (b : ℕ) (h : b < block_count R) where
    pub owner-released : owner (released R f n) b ≡ pick (is_gone R f n b) 0 (owner R b)
    unfolding owner
    owner-released = two-released b (4 * b) h (omega arith) (omega arith)

    pub place-released : place (released R f n) b ≡ pick (is_gone R f n b) 0 (place R b)
    unfolding place
    place-released = two-released b (4 * b + 2) h (omega arith) (omega arith)

  -- ---- each record is let go, or as it was

  pub record Gone (b : ℕ) : Type 0 where
    pub was-owner : owner R b ≡ f
    pub was-place : n ≤ place R b
    pub now_free_owner : owner (released R f n) b ≡ 0
    pub now_free_place : place (released R f n) b ≡ 0

  module _ (b : ℕ) (h : b < block_count R) where
    pub released-at : Gone b ⊎ Kept R (released R f n) b
    released-at =
        ⊎_elim
        (λ (e : is_gone R f n b ≡ true). inl (record {
          was-owner = eqb-true (owner R b) f (and_left (eqb (owner R b) f) (leb n (place R b)) e);
          was-place = leb-true n (place R b) (and_right (eqb (owner R b) f) (leb n (place R b)) e);
          now_free_owner = owner-released b h ∙ rw e;
          now_free_place = place-released b h ∙ rw e;
        }))
        (λ (e : is_gone R f n b ≡ false). inr (record { same-owner = owner-released b h ∙ rw e; same_place = place-released b h ∙ rw e }))
        (tested (is_gone R f n b))

    -- what is left of f is below n
    pub released-rest : f ≢ 0 → owner (released R f n) b ≡ f → place (released R f n) b < n
    released-rest z o =
        ⊎_elim
        (λ (e : is_gone R f n b ≡ true). absurd (z (sym o ∙ owner-released b h ∙ rw e)))
        (λ (e : is_gone R f n b ≡ false).
        let o' : owner R b ≡ f = sym (owner-released b h ∙ rw e) ∙ o in
        let p : place (released R f n) b ≡ place R b = place-released b h ∙ rw e in
        let l : place R b < n = leb-false n (place R b) (rw (eq-eqb (owner R b) f o') at e) in
        omega arith)
        (tested (is_gone R f n b))

    -- the places of other files are as they were
    pub released-other : (g i : ℕ) → g ≢ 0 → g ≢ f → holds (released R f n) g i b ≡ holds R g i b
    released-other g i z d =
        ⊎_elim
        (λ (o : Gone b). other-owner (released R f n) g i b (rw o.now_free_owner (λ e. z (sym e))) ∙ sym (other-owner R g i b (rw o.was-owner (λ e. d (sym e)))))
        (λ k. kept_holds R (released R f n) b k g i)
        released-at

    -- and so are those of f below n
    pub released_below : (i : ℕ) → f ≢ 0 → i < n → holds (released R f n) f i b ≡ holds R f i b
    released_below i z l =
        ⊎_elim
        (λ (o : Gone b). other-owner (released R f n) f i b (rw o.now_free_owner (λ e. z (sym e))) ∙ sym (other_place R f i b (omega arith)))
        (λ k. kept_holds R (released R f n) b k f i)
        released-at

    -- a free block stays free
    pub released_free : is_free R b ≡ true → is_free (released R f n) b ≡ true
    released_free e =
        ⊎_elim
        (λ (o : Gone b). its_place (released R f n) 0 0 b o.now_free_owner o.now_free_place)
        (λ k. kept_holds R (released R f n) b k 0 0 ∙ e)
        released-at
