-- Words that are none of the program's by their length and first byte: of six bytes, of seven, and of more.
use Rattle.std.proofs.Common.{ℕ, ◌≤◌, ◌<◌, ◌≡◌, sym, List, [], ◌∷◌, false, eqb, Option, None, length, get_or, arith, ne_eqb}
use Rattle.records.specs.Tests.{and_false}
use Rattle.meaning.specs.Name.{same}
use Rattle.meaning.specs.Text.{text}
use Rattle.text.specs.Line.{forms, formed}

module _ (rest : Option (List ℕ)) where
  pub other_six : (word : List ℕ) → 6 ≤ length word → length word < 7 → (get_or word 0 0 ≡ 99 → ⊥) → (get_or word 0 0 ≡ 117 → ⊥)
      → None ≡ formed forms word rest
  unfolding forms formed same text
  other_six [] l h p q = absurd (omega arith)
  other_six (a ∷ []) l h p q = absurd (omega arith)
  other_six (a ∷ b ∷ []) l h p q = absurd (omega arith)
  other_six (a ∷ b ∷ c ∷ []) l h p q = absurd (omega arith)
  other_six (a ∷ b ∷ c ∷ d ∷ []) l h p q = absurd (omega arith)
  other_six (a ∷ b ∷ c ∷ d ∷ e ∷ []) l h p q = absurd (omega arith)
  other_six (a ∷ b ∷ c ∷ d ∷ e ∷ f ∷ []) l h p q =
      let p' : eqb 99 a ≡ false = ne_eqb 99 a (λ e. p (sym e)) in
      let q' : eqb 117 a ≡ false = ne_eqb 117 a (λ e. q (sym e)) in
      simp (p', q', and_false)
  other_six (a ∷ b ∷ c ∷ d ∷ e ∷ f ∷ g ∷ word) l h p q = absurd (omega arith)

  pub other_seven : (word : List ℕ) → 7 ≤ length word → length word < 8 → (get_or word 0 0 ≡ 112 → ⊥) → None ≡ formed forms word rest
  unfolding forms formed same text
  other_seven [] l h p = absurd (omega arith)
  other_seven (a ∷ []) l h p = absurd (omega arith)
  other_seven (a ∷ b ∷ []) l h p = absurd (omega arith)
  other_seven (a ∷ b ∷ c ∷ []) l h p = absurd (omega arith)
  other_seven (a ∷ b ∷ c ∷ d ∷ []) l h p = absurd (omega arith)
  other_seven (a ∷ b ∷ c ∷ d ∷ e ∷ []) l h p = absurd (omega arith)
  other_seven (a ∷ b ∷ c ∷ d ∷ e ∷ f ∷ []) l h p = absurd (omega arith)
  other_seven (a ∷ b ∷ c ∷ d ∷ e ∷ f ∷ g ∷ []) l h p = let p' : eqb 112 a ≡ false = ne_eqb 112 a (λ e. p (sym e)) in simp (p', and_false)
  other_seven (a ∷ b ∷ c ∷ d ∷ e ∷ f ∷ g ∷ h' ∷ word) l h p = absurd (omega arith)

  pub longer : (word : List ℕ) → 8 ≤ length word → None ≡ formed forms word rest
  unfolding forms formed same text
  longer [] l = absurd (omega arith)
  longer (a ∷ []) l = absurd (omega arith)
  longer (a ∷ b ∷ []) l = absurd (omega arith)
  longer (a ∷ b ∷ c ∷ []) l = absurd (omega arith)
  longer (a ∷ b ∷ c ∷ d ∷ []) l = absurd (omega arith)
  longer (a ∷ b ∷ c ∷ d ∷ e ∷ []) l = absurd (omega arith)
  longer (a ∷ b ∷ c ∷ d ∷ e ∷ f ∷ []) l = absurd (omega arith)
  longer (a ∷ b ∷ c ∷ d ∷ e ∷ f ∷ g ∷ []) l = absurd (omega arith)
  longer (a ∷ b ∷ c ∷ d ∷ e ∷ f ∷ g ∷ h ∷ word) l = simp and_false
