-- The test of a file's names passes exactly where the plain facts hold.
use Rattle.std.specs.Prelude.{ℕ, ◌<◌, ◌≡◌, ◌≢◌, ◌⊎◌, Bool, false, not, ◌&&◌, ◌||◌, ltb, eqb}
use Rattle.std.proofs.Math.Path.{refl}
use Rattle.std.proofs.Common.{sym, ◌∙◌, true≢false}
use Rattle.std.proofs.Math.Logic.{inl, inr, ⊎_elim}
use Rattle.std.proofs.Math.Bool.{true}
use borrow.Author.Tests.{ltb-true, eqb-true, lt-ltb, eq-eqb, ne_eqb}
use Rattle.records.specs.Tests.{tested, either, or_right, same_or_not}
use Rattle.meaning.specs.Store.{Store, root, in_use, is_directory, names, held}
use Rattle.meaning.specs.Sound.{is_named}

module _ (s : Store) where
  -- a file in use has the names it needs
  abbrev pub Named : ℕ → Type 0
  Named f = in_use s f ≡ true → f ≢ root → (is_directory s f ≡ true → names s f ≡ 1) × (is_directory s f ≡ false → (0 < names s f) ⊎ (held s f ≡ true))

  abbrev one_name : ℕ → Bool
  one_name f = is_directory s f && eqb (names s f) 1

  abbrev some_hold : ℕ → Bool
  some_hold f = not (is_directory s f) && (ltb 0 (names s f) || held s f)

  pub is_named_lem : (f : ℕ) → is_named s f ≡ true → Named f
  unfolding is_named
  is_named_lem f e is_in_use other = go (is_directory s f) refl
    where
      rest : one_name f || some_hold f ≡ true
      rest = rw (is_in_use, ne_eqb f root other) at e

      go : (t : Bool) → is_directory s f ≡ t → (is_directory s f ≡ true → names s f ≡ 1) × (is_directory s f ≡ false → (0 < names s f) ⊎ (held s f ≡ true))
      go true is =
          let one : eqb (names s f) 1 || false ≡ true = rw is at rest in (
            (λ is. ⊎_elim (λ h. eqb-true (names s f) 1 h) (λ h. absurd (true≢false (sym h))) (either (eqb (names s f) 1) false one)),
            λ isnt. absurd (true≢false (sym is ∙ isnt)),
          )
      go false isnt =
          let some : ltb 0 (names s f) || held s f ≡ true = rw isnt at rest in (
            (λ is. absurd (true≢false (sym is ∙ isnt))),
            λ isnt. ⊎_elim (λ h. inl (ltb-true 0 (names s f) h)) (λ h. inr h) (either (ltb 0 (names s f)) (held s f) some),
          )

  pub of_is_named : (f : ℕ) → Named f → is_named s f ≡ true
  unfolding is_named
  of_is_named f h =
      ⊎_elim
      (λ (u : in_use s f ≡ false). rw u)
      (λ (u : in_use s f ≡ true). ⊎_elim
      (λ (r : f ≡ root). rw (u, eq-eqb f root r))
      (λ (n : f ≢ root). rw (u, ne_eqb f root n) (go (is_directory s f) refl (h u n)))
      (same_or_not f root))
      (swapped (tested (in_use s f)))
    where
      swapped : {A B : Type 0} → A ⊎ B → B ⊎ A
      swapped d = ⊎_elim (λ a. inr a) (λ b. inl b) d

      go : (t : Bool) → is_directory s f ≡ t → (is_directory s f ≡ true → names s f ≡ 1) × (is_directory s f ≡ false → (0 < names s f) ⊎ (held s f ≡ true))
          → one_name f || some_hold f ≡ true
      go true is k = rw (is, k.0 is)
      go false isnt k =
          rw isnt (⊎_elim
          (λ (l : 0 < names s f). rw (lt-ltb 0 (names s f) l))
          (λ (l : held s f ≡ true). or_right (ltb 0 (names s f)) (held s f) l)
          (k.1 isnt))
