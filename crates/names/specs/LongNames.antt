-- A name has at most 120 bytes: eight syllables of 14 bytes, each after a slash.
use Rattle.std.specs.Prelude.{ℕ, suc, ◌+◌, ◌*◌, ◌≤◌, ◌<◌, ◌≡◌, refl, List, [], ◌∷◌, Bool, true, false, ◌&&◌, None, get_or, leb, eqb}
use Rattle.std.proofs.Math.Option.{none, some}
use Rattle.std.proofs.Common.{arith}
use Rattle.std.proofs.Math.ListN.{length}
use borrow.Author.Tests.{leb-true}
use Rattle.records.specs.Rows.{pick, every}
use Rattle.records.specs.RowLaws.{every_all}
use Rattle.records.specs.Tests.{and_left, and_right}
use Rattle.meaning.specs.Name.{slash, most_syllables, is_syllable, before, split, are_syllables, syllables}
use Rattle.names.specs.Syllables.{form_of}
use Rattle.names.specs.SyllableTests.{syllable_short}

-- how many bytes pieces take, each with the slash before it
spread : List (List ℕ) → ℕ
spread [] = 0
spread (piece ∷ pieces) = 1 + length piece + spread pieces

split_spread : (bytes : List ℕ) → spread (split bytes) ≡ 1 + length bytes
unfolding split before spread
split_spread [] = refl
split_spread (b ∷ bytes) = go (eqb b slash) (split bytes) (split_spread bytes)
  where
    go : (t : Bool) (pieces : List (List ℕ)) → spread pieces ≡ 1 + length bytes → spread (before b t pieces) ≡ 1 + length (b ∷ bytes)
    go true pieces e = omega arith
    go false [] e = absurd (omega arith)
    go false (piece ∷ pieces) e = omega arith

spread_most : (pieces : List (List ℕ)) → ((i : ℕ) → i < length pieces → length (get_or pieces i []) ≤ 14) → spread pieces ≤ 15 * length pieces
unfolding spread
spread_most [] h = omega arith
spread_most (piece ∷ pieces) h =
    let rest = spread_most pieces (λ i (l : i < length pieces). h (suc i) (omega arith)) in
    omega (arith, h 0 (omega arith), rest)

module _ (pieces : List (List ℕ)) where
  abbrev few : Bool
  few = leb (length pieces) most_syllables

  abbrev good : Bool
  good = every (length pieces) (λ i. is_syllable (get_or pieces i []))

  pieces_most : are_syllables pieces ≡ true → spread pieces ≤ 120
  unfolding are_syllables
  pieces_most e =
      let count : length pieces ≤ most_syllables = leb-true (length pieces) most_syllables (and_left few good e) in
      let each = every_all (length pieces) (λ i. is_syllable (get_or pieces i [])) (and_right few good e) in
      omega (arith, spread_most pieces (λ i l. syllable_short (get_or pieces i []) (each i l)))

-- what is longer is no name
long_none : (bytes : List ℕ) → 120 < length bytes → syllables bytes ≡ none
unfolding syllables
long_none [] h = refl
long_none (b ∷ []) h = absurd (omega arith)
long_none (b ∷ c ∷ bytes) h = go (eqb b slash && are_syllables (split (c ∷ bytes))) refl
  where
    go : (t : Bool) → (eqb b slash && are_syllables (split (c ∷ bytes))) ≡ t → pick t (some (split (c ∷ bytes))) none ≡ none
    go true e = absurd (omega (arith, pieces_most (split (c ∷ bytes)) (and_right (eqb b slash) (are_syllables (split (c ∷ bytes))) e), split_spread (c ∷ bytes)))
    go false e = refl

pub form_long : (bytes : List ℕ) → 120 < length bytes → form_of (syllables bytes) ≡ None
unfolding form_of
form_long bytes h = rw (long_none bytes h)
