-- The record that starts at a place of a table: its name read there, and two records' names compared.
use Rattle.std.specs.Prelude.{ℕ, ◌+◌, ◌-◌, ◌≤◌, ◌<◌, ◌≡◌, refl, ◌≢◌, List, Bool, true, ◌&&◌, ltb}
use Rattle.std.proofs.Math.Path.{sym, ap}
use Rattle.std.proofs.Common.{◌∙◌, ext_get_or}
use Rattle.std.proofs.Math.Logic.{⊎_elim}
use Rattle.std.proofs.Math.Bool.{false, not, and-true}
use native.Mathlib.Omega.{arith}
use Rattle.std.proofs.Math.ListN.{length, get_or}
use Rattle.std.proofs.Math.Dec.{eqb}
use borrow.Author.Tests.{eq-eqb, ne_eqb, eqb-true, eqb-false, le-leb, not-true}
use Rattle.records.specs.Rows.{every}
use Rattle.records.specs.RowLaws.{every_all, every_cong, lowest_cong, lowest_hit, lowest_is}
use Rattle.records.specs.LoopLaws.{every_fail}
use Rattle.records.specs.NumberLaws.{two_small, two_cong, four_cong, zeros_cong}
use Rattle.records.specs.Numbers.{one, two, four, zeros}
use Rattle.records.specs.Tests.{and_left, and_false, same_or_not, lt_or_ge}
use Rattle.meaning.specs.Name.{slash, name_end, entry_in, is_written, is_syllable, same}
use Rattle.names.specs.SameLaws.{same_is, is_same}
use Rattle.names.specs.RecordLaws.{name_end-within, name-length, name-one}
use Rattle.names.specs.RecordNames.{record_from, record_length, record_one}

-- ---- a record's name

-- a name's byte i, read in a table, is neither 0 nor "/"
unfoldable pub lettered : List ℕ → ℕ → ℕ → Bool
lettered table at i = not (eqb (one table (at + 2 + i)) 0) && not (eqb (one table (at + 2 + i)) slash)

pub is_lettered : (table : List ℕ) (at i b : ℕ) → b ≡ one table (at + 2 + i) → (b ≡ 0 → ⊥) → (b ≡ slash → ⊥) → lettered table at i ≡ true
unfolding lettered
is_lettered table at i b e z s = rw (← e, ne_eqb b 0 z, ne_eqb b slash s)

-- a name that ends within its 14 bytes ends at a zero
ends_zero : (s : List ℕ) → name_end s < 14 → one s (2 + name_end s) ≡ 0
unfolding name_end
ends_zero s h = eqb-true (one s (2 + name_end s)) 0 (lowest_hit 14 (λ j. eqb (one s (2 + j)) 0) h)

module _ (table : List ℕ) (at : ℕ) (fits : at + 16 ≤ length table) where
  abbrev r : List ℕ
  r = record_from table at

  size : length r ≡ 16
  size = record_length table at fits

  pub name_byte : (i : ℕ) → i < 14 → one r (2 + i) ≡ one table (at + 2 + i)
  name_byte i h =
      let e : at + (2 + i) ≡ at + 2 + i = omega arith in
      record_one table at fits (2 + i) (omega arith) ∙ ap (one table) e

  end-within : name_end r ≤ 14
  end-within = name_end-within r size

  zeros_there : zeros r (2 + name_end r) (14 - name_end r) ≡ zeros table (at + 2 + name_end r) (14 - name_end r)
  unfolding one
  zeros_there =
      let within : name_end r ≤ 14 = end-within in
      zeros_cong r table (2 + name_end r) (at + 2 + name_end r) (14 - name_end r)
      (λ k (h : k < 14 - name_end r).
      let e : at + (2 + name_end r + k) ≡ at + 2 + name_end r + k = omega arith in
      record_one table at fits (2 + name_end r + k) (omega arith) ∙ ap (one table) e)

  letters_there : every (name_end r) (λ i. not (eqb (one (entry_in r).name i) 0) && not (eqb (one (entry_in r).name i) slash)) ≡ every (name_end r) (lettered table at)
  unfolding lettered
  letters_there =
      every_cong (name_end r) (λ i. not (eqb (one (entry_in r).name i) 0) && not (eqb (one (entry_in r).name i) slash)) (lettered table at)
      (λ i (h : i < name_end r).
      ap (λ b. not (eqb b 0) && not (eqb b slash)) (name-one r size i h ∙ name_byte i (omega (arith, end-within))))

  written_there : is_written r ≡ (ltb 0 (name_end r) && every (name_end r) (lettered table at)) && zeros table (at + 2 + name_end r) (14 - name_end r)
  unfolding is_written is_syllable
  written_there =
      rw (name-length r size, le-leb (name_end r) 14 end-within, zeros_there, letters_there)
      (ap (λ t. t && every (name_end r) (lettered table at) && zeros table (at + 2 + name_end r) (14 - name_end r)) (and-true (ltb 0 (name_end r))))

  module _ (i : ℕ) (within : i ≤ 14) (so_far : every i (lettered table at) ≡ true) where
    no_zero : (j : ℕ) → j < i → one table (at + 2 + j) ≢ 0
    unfolding lettered
    no_zero j h =
        eqb-false (one table (at + 2 + j)) 0
        (not-true (eqb (one table (at + 2 + j)) 0)
        (and_left (not (eqb (one table (at + 2 + j)) 0)) (not (eqb (one table (at + 2 + j)) slash)) (every_all i (lettered table at) so_far j h)))

    ends_at : (i < 14 → one table (at + 2 + i) ≡ 0) → name_end r ≡ i
    unfolding name_end
    ends_at z =
        lowest_is 14 (λ j. eqb (one r (2 + j)) 0) i within
        (λ j (h : j < i). ne_eqb (one r (2 + j)) 0 (λ e. no_zero j h (sym (name_byte j (omega arith)) ∙ e)))
        (λ l. eq-eqb (one r (2 + i)) 0 (name_byte i l ∙ z l))

    -- the name's first zero is at i
    pub written-ended : i < 14 → one table (at + 2 + i) ≡ 0 → is_written r ≡ ltb 0 i && zeros table (at + 2 + i) (14 - i)
    written-ended h z = written_there ∙ rw (ends_at (λ l. z), so_far) (ap (λ t. t && zeros table (at + 2 + i) (14 - i)) (and-true (ltb 0 i)))

    -- the name has all 14 bytes
    pub written_full : 14 ≤ i → is_written r ≡ true
    unfolding zeros every
    written_full h = let e : i ≡ 14 = omega arith in written_there ∙ rw (ends_at (λ l. absurd (omega arith)), so_far, e)

    -- a slash is in the name
    pub written-slash : i < 14 → one table (at + 2 + i) ≡ slash → is_written r ≡ false
    unfolding lettered
    written-slash h s =
        ⊎_elim
        (λ (l : i < name_end r).
        let bad : every (name_end r) (lettered table at) ≡ false = every_fail (lettered table at) i (name_end r) l (rw s) in
        written_there ∙ rw (bad, and_false (ltb 0 (name_end r))))
        (λ (l : name_end r ≤ i). absurd (at-end l))
        (lt_or_ge i (name_end r))
      where
        zero_there : name_end r < 14 → one table (at + 2 + name_end r) ≡ 0
        zero_there l = sym (name_byte (name_end r) l) ∙ ends_zero r l

        at-end : name_end r ≤ i → ⊥
        at-end l =
            ⊎_elim
            (λ (e : name_end r ≡ i). let z : one table (at + 2 + i) ≡ 0 = rw e at (zero_there (omega arith)) in omega (arith, s))
            (λ (d : name_end r ≢ i). no_zero (name_end r) (omega arith) (zero_there (omega arith)))
            (same_or_not (name_end r) i)

-- ---- two records' names

-- the bytes behind the name of the record that starts at a place are zero
pub record Filled (table : List ℕ) (at : ℕ) : Type 0 where
  pub zero : (k : ℕ) → name_end (record_from table at) ≤ k → k < 14 → one table (at + 2 + k) ≡ 0

-- the 14 bytes of two records' names, as numbers, are the same
pub record SameWords (table : List ℕ) (at bt : ℕ) : Type 0 where
  pub first : four table (at + 2) ≡ four table (bt + 2)
  pub second : four table (at + 6) ≡ four table (bt + 6)
  pub third : four table (at + 10) ≡ four table (bt + 10)
  pub last : two table (at + 14) ≡ two table (bt + 14)

-- bytes of equal numbers are equal
module _ (l : List ℕ) (bytes : (j : ℕ) → get_or l j 0 < 256) (i j : ℕ) where
  two_bytes_lem : two l i ≡ two l j → (k : ℕ) → k < 2 → one l (i + k) ≡ one l (j + k)
  unfolding two one
  two_bytes_lem e k h =
      let low : get_or l i 0 ≡ get_or l j 0 = omega (arith, bytes i, bytes j, bytes (i + 1), bytes (j + 1)) in
      let high : get_or l (i + 1) 0 ≡ get_or l (j + 1) 0 = omega (arith, bytes i, bytes j, bytes (i + 1), bytes (j + 1)) in
      ⊎_elim
      (λ (z : k ≡ 0). let a : i + k ≡ i = omega arith in let b : j + k ≡ j = omega arith in rw (a, b) low)
      (λ (d : k ≢ 0). let s : k ≡ 1 = omega arith in rw s high)
      (same_or_not k 0)

module _ (l : List ℕ) (bytes : (j : ℕ) → get_or l j 0 < 256) (i j : ℕ) where
  four_bytes_lem : four l i ≡ four l j → (k : ℕ) → k < 4 → one l (i + k) ≡ one l (j + k)
  unfolding four
  four_bytes_lem e k h =
      let low : two l i ≡ two l j = omega (arith, two_small l bytes i, two_small l bytes j, two_small l bytes (i + 2), two_small l bytes (j + 2)) in
      let high : two l (i + 2) ≡ two l (j + 2) = omega (arith, two_small l bytes i, two_small l bytes j, two_small l bytes (i + 2), two_small l bytes (j + 2)) in
      ⊎_elim
      (λ (b : k < 2). two_bytes_lem l bytes i j low k b)
      (λ (b : 2 ≤ k).
      let s : i + 2 + (k - 2) ≡ i + k = omega arith in
      let t : j + 2 + (k - 2) ≡ j + k = omega arith in
      rw (s, t) at (two_bytes_lem l bytes (i + 2) (j + 2) high (k - 2) (omega arith)))
      (lt_or_ge k 2)

module _ (table : List ℕ) (at bt : ℕ) where
  abbrev named-same : Bool
  named-same = same (entry_in (record_from table at)).name (entry_in (record_from table bt)).name

  abbrev Agree : Type 0
  Agree = (k : ℕ) → k < 14 → one table (at + 2 + k) ≡ one table (bt + 2 + k)

  agree_words : Agree → SameWords table at bt
  agree_words agree =
      record {
        first = four_cong table table (at + 2) (bt + 2) (λ k (h : k < 4). byte (at + 2 + k) (bt + 2 + k) k (omega arith) refl refl);
        second = four_cong table table (at + 6) (bt + 6) (λ k (h : k < 4). byte (at + 6 + k) (bt + 6 + k) (4 + k) (omega arith) (omega arith) (omega arith));
        third = four_cong table table (at + 10) (bt + 10) (λ k (h : k < 4). byte (at + 10 + k) (bt + 10 + k) (8 + k) (omega arith) (omega arith) (omega arith));
        last = two_cong table table (at + 14) (bt + 14) (λ k (h : k < 2). byte (at + 14 + k) (bt + 14 + k) (12 + k) (omega arith) (omega arith) (omega arith));
      }
    where
      byte : (i j k : ℕ) → k < 14 → i ≡ at + 2 + k → j ≡ bt + 2 + k → get_or table i 0 ≡ get_or table j 0
      byte i j k h e f = unfold one in rw (e, f) (agree k h)

  words_agree : ((j : ℕ) → get_or table j 0 < 256) → SameWords table at bt → Agree
  words_agree bytes w k h =
      ⊎_elim
      (λ (b : k < 4). four_bytes_lem table bytes (at + 2) (bt + 2) w.first k b)
      (λ (b : 4 ≤ k). ⊎_elim
      (λ (c : k < 8). moved 6 4 (omega arith) (omega arith) (four_bytes_lem table bytes (at + 6) (bt + 6) w.second (k - 4) (omega arith)))
      (λ (c : 8 ≤ k). ⊎_elim
      (λ (d : k < 12). moved 10 8 (omega arith) (omega arith) (four_bytes_lem table bytes (at + 10) (bt + 10) w.third (k - 8) (omega arith)))
      (λ (d : 12 ≤ k). moved 14 12 (omega arith) (omega arith) (two_bytes_lem table bytes (at + 14) (bt + 14) w.last (k - 12) (omega arith)))
      (lt_or_ge k 12))
      (lt_or_ge k 8))
      (lt_or_ge k 4)
    where
      moved : (m n : ℕ) → m ≡ 2 + n → n ≤ k → one table (at + m + (k - n)) ≡ one table (bt + m + (k - n)) → one table (at + 2 + k) ≡ one table (bt + 2 + k)
      moved m n e l same_byte =
          let s : at + m + (k - n) ≡ at + 2 + k = omega arith in
          let t : bt + m + (k - n) ≡ bt + 2 + k = omega arith in
          rw (s, t) at same_byte

  module _ (fits : at + 16 ≤ length table) (fits' : bt + 16 ≤ length table) where
    abbrev ra : List ℕ
    ra = record_from table at

    abbrev rb : List ℕ
    rb = record_from table bt

    -- where zeros stand behind both, names are the same just where the words are
    pub same_words : Filled table at → Filled table bt → named-same ≡ true → SameWords table at bt
    same_words filled filled' is =
        let e : (entry_in ra).name ≡ (entry_in rb).name = same_is (entry_in ra).name (entry_in rb).name is in
        let ends : name_end ra ≡ name_end rb = sym (name-length ra (record_length table at fits)) ∙ ap length e ∙ name-length rb (record_length table bt fits') in
        agree_words (λ k (h : k < 14).
        ⊎_elim
        (λ (l : k < name_end ra).
        sym (name_byte table at fits k h) ∙ sym (name-one ra (record_length table at fits) k l)
        ∙ ap (λ s. one s k) e
        ∙ name-one rb (record_length table bt fits') k (rw ends at l) ∙ name_byte table bt fits' k h)
        (λ (l : name_end ra ≤ k). filled.zero k l h ∙ sym (filled'.zero k (rw ends at l) h))
        (lt_or_ge k (name_end ra)))

    ends_same : ((k : ℕ) → k < 14 → one ra (2 + k) ≡ one rb (2 + k)) → name_end ra ≡ name_end rb
    unfolding name_end
    ends_same alike = lowest_cong 14 (λ i. eqb (one ra (2 + i)) 0) (λ i. eqb (one rb (2 + i)) 0) (λ i h. ap (λ b. eqb b 0) (alike i h))

    pub words_same : ((j : ℕ) → get_or table j 0 < 256) → SameWords table at bt → named-same ≡ true
    unfolding one
    words_same bytes w =
        let alike : (k : ℕ) → k < 14 → one ra (2 + k) ≡ one rb (2 + k) = λ k h. name_byte table at fits k h ∙ words_agree bytes w k h ∙ sym (name_byte table bt fits' k h) in
        let ends : name_end ra ≡ name_end rb = ends_same alike in
        let within : name_end ra ≤ 14 = end-within table at fits in
        is_same (entry_in ra).name (entry_in rb).name
        (ext_get_or 0 (entry_in ra).name (entry_in rb).name
        (name-length ra (record_length table at fits) ∙ ends ∙ sym (name-length rb (record_length table bt fits')))
        (λ j (h : j < length (entry_in ra).name).
        let b : j < name_end ra = rw (name-length ra (record_length table at fits)) at h in
        name-one ra (record_length table at fits) j b ∙ alike j (omega arith) ∙ sym (name-one rb (record_length table bt fits') j (rw ends at b))))
