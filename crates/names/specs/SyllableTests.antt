-- A syllable: 1 to 14 bytes, none of them 0 or "/". What the test says, both ways.
use Rattle.std.specs.Prelude.{ℕ, ◌≤◌, ◌<◌, ◌≡◌, refl, List, [], ◌∷◌, Bool, true, false, not, ◌&&◌, ltb, eqb, length, get_or}
use Rattle.std.specs.List.{list_all}
use Rattle.std.proofs.Common.{ap, ◌∙◌, ⊎_elim, arith}
use Rattle.std.proofs.Math.Dec.{leb}
use borrow.Author.Tests.{lt-ltb, le-leb, lt-leb, ltb-true, leb-true, not-true}
use Rattle.records.specs.Rows.{every}
use Rattle.records.specs.Numbers.{one}
use Rattle.records.specs.RowLaws.{every_all, every_front}
use Rattle.records.specs.Tests.{and_left, and_right, and_false, lt_or_ge, le_or_gt}
use Rattle.records.specs.LoopLaws.{every_fail}
use Rattle.meaning.specs.Name.{slash, is_syllable}

-- a byte of a syllable: neither 0 nor "/"
abbrev pub plain_byte : ℕ → Bool
plain_byte b = not (eqb b 0) && not (eqb b slash)

abbrev pub is_plain : List ℕ → ℕ → Bool
is_plain s i = plain_byte (one s i)

-- a test of each byte of a row, as the library has it
pub every_byte : (p : ℕ → Bool) (s : List ℕ) → every (length s) (λ i. p (one s i)) ≡ list_all p s
unfolding every one
every_byte p [] = refl
every_byte p (b ∷ s) = every_front (length s) (λ i. p (get_or (b ∷ s) i 0)) ∙ ap (λ t. p b && t) (every_byte p s)

module _ (s : List ℕ) where
  pub syllable_none : length s ≡ 0 → is_syllable s ≡ false
  unfolding is_syllable
  syllable_none h = rw h

  pub syllable_long : 14 < length s → is_syllable s ≡ false
  unfolding is_syllable
  syllable_long h = rw (lt-leb (length s) 14 h, and_false (ltb 0 (length s)))

  pub syllable_not : (i : ℕ) → i < length s → is_plain s i ≡ false → is_syllable s ≡ false
  unfolding is_syllable
  syllable_not i h e = rw (every_fail (is_plain s) i (length s) h e, and_false (ltb 0 (length s) && leb (length s) 14))

  -- one whose length is that of a syllable, and one whose length is not
  pub syllable_sized : 1 ≤ length s → length s ≤ 14 → is_syllable s ≡ list_all plain_byte s
  unfolding is_syllable
  syllable_sized l h = rw (lt-ltb 0 (length s) l, le-leb (length s) 14 h, every_byte plain_byte s)

  pub syllable_unsized : (1 ≤ length s → length s ≤ 14 → ⊥) → is_syllable s ≡ false
  syllable_unsized h = ⊎_elim (λ (l : length s ≤ 14). ⊎_elim (λ (m : length s < 1). syllable_none (omega arith)) (λ (m : 1 ≤ length s). absurd (h m l)) (lt_or_ge (length s) 1)) (λ l. syllable_long l) (le_or_gt (length s) 14)

  pub syllable_yes : 0 < length s → length s ≤ 14 → every (length s) (is_plain s) ≡ true → is_syllable s ≡ true
  unfolding is_syllable
  syllable_yes l h e = rw (lt-ltb 0 (length s) l, le-leb (length s) 14 h, e)

  module _ (is : is_syllable s ≡ true) where
    sized : ltb 0 (length s) && leb (length s) 14 ≡ true
    unfolding is_syllable
    sized = and_left (ltb 0 (length s) && leb (length s) 14) (every (length s) (is_plain s)) is

    pub syllable_some : 0 < length s
    syllable_some = ltb-true 0 (length s) (and_left (ltb 0 (length s)) (leb (length s) 14) sized)

    pub syllable_short : length s ≤ 14
    syllable_short = leb-true (length s) 14 (and_right (ltb 0 (length s)) (leb (length s) 14) sized)

    plain : (i : ℕ) → i < length s → is_plain s i ≡ true
    unfolding is_syllable
    plain = every_all (length s) (is_plain s) (and_right (ltb 0 (length s) && leb (length s) 14) (every (length s) (is_plain s)) is)

    pub syllable_no_zero : (i : ℕ) → i < length s → eqb (one s i) 0 ≡ false
    syllable_no_zero i h = not-true (eqb (one s i) 0) (and_left (not (eqb (one s i) 0)) (not (eqb (one s i) slash)) (plain i h))

    pub syllable_no_slash : (i : ℕ) → i < length s → eqb (one s i) slash ≡ false
    syllable_no_slash i h = not-true (eqb (one s i) slash) (and_right (not (eqb (one s i) 0)) (not (eqb (one s i) slash)) (plain i h))
