-- The one rule of directory records, both ways: what is written reads as it was, and what is read was written so.
use Prim.Native.Nat.{ℕ, zero, suc, ◌+◌, ◌-◌, ◌*◌, ◌/◌, ◌%◌, ◌≤◌, ◌<◌}
use Rattle.std.specs.Prelude.{◌≡◌, refl, List, [], ◌∷◌, ◌++◌, true, drop, replicate}
use Rattle.std.proofs.Math.Path.{ap, ap₂}
use Rattle.std.proofs.Common.{sym, ◌∙◌, length-append, length-drop, length-take, take-append-drop, ext_get_or, length-take-le, get_or-drop, get_or-take}
use native.Mathlib.Omega.{arith}
use Rattle.std.proofs.Math.Dec.{eqb}
use Rattle.std.proofs.Math.ListN.{length, take, get_or-eq_default}
use Rattle.std.proofs.lemmas.List.{length-replicate, get_or-replicate}
use Rattle.std.proofs.Math.Seq.{take-append_seam}
use borrow.Author.Tests.{eq-eqb, eqb-true}
use Rattle.records.specs.Numbers.{one, two, two_bytes, zeros}
use Rattle.records.specs.RowLaws.{lowest_cong, lowest-within, every_all, lowest_is}
use Rattle.records.specs.Tests.{and_right}
use Rattle.meaning.specs.Name.{is_syllable, Entry, entry, written, name_end, entry_in, is_written}
use Rattle.names.specs.SyllableTests.{syllable_short, syllable_no_zero}

-- ---- what is written reads as it was

-- zeros behind a row of bytes do not show
pub one-padded : (s : List ℕ) (n i : ℕ) → one (s ++ replicate n 0) i ≡ one s i
unfolding one
one-padded [] zero i = refl
one-padded [] (suc n) zero = refl
one-padded [] (suc n) (suc i) = one-padded [] n i
one-padded (b ∷ s) n zero = refl
one-padded (b ∷ s) n (suc i) = one-padded s n i

module _ (e : Entry) where
  pub two-written : e.file < 65536 → two (written e) 0 ≡ e.file
  unfolding written two_bytes two one
  two-written h = omega arith

  one_written : (i : ℕ) → one (written e) (2 + i) ≡ one e.name i
  unfolding written two_bytes one
  one_written i =
      let z : 2 + i ≡ suc (suc i) = omega arith in
      rw z (one-padded e.name (14 - length e.name) i)

  module _ (is : is_syllable e.name ≡ true) where
    short : length e.name ≤ 14
    short = syllable_short e.name is

    pub length-written : length (written e) ≡ 16
    unfolding written two_bytes
    length-written = rw (length-append, length-replicate) (omega (arith, short))

    pub name_end-written : name_end (written e) ≡ length e.name
    unfolding name_end
    name_end-written =
        lowest_cong 14 (λ i. eqb (one (written e) (2 + i)) 0) (λ i. eqb (one e.name i) 0) (λ i h. ap (λ b. eqb b 0) (one_written i))
        ∙ lowest_is 14 (λ i. eqb (one e.name i) 0) (length e.name) short (syllable_no_zero e.name is)
        (λ h. eq-eqb (one e.name (length e.name)) 0 (unfold one in get_or-eq_default e.name 0 (omega arith)))

    pub read-written : e.file < 65536 → entry_in (written e) ≡ e
    unfolding entry_in
    read-written h =
        let name : take (name_end (written e)) (drop 2 (written e)) ≡ e.name =
        rw name_end-written (unfold written two_bytes in take-append_seam e.name (replicate (14 - length e.name) 0)) in
        ap₂ entry (two-written h) name

-- ---- what is read was written so

module _ (r : List ℕ) (size : length r ≡ 16) where
  pub name_end-within : name_end r ≤ 14
  unfolding name_end
  name_end-within = lowest-within 14 (λ i. eqb (one r (2 + i)) 0)

  pub name-length : length (entry_in r).name ≡ name_end r
  unfolding entry_in
  name-length = rw (length-take, length-drop) (omega (arith, name_end-within))

  pub name-one : (i : ℕ) → i < name_end r → one (entry_in r).name i ≡ one r (2 + i)
  unfolding entry_in one
  name-one i h = rw (get_or-take, get_or-drop)

number-bytes : (a b : ℕ) → a < 256 → b < 256 → two_bytes (a + 256 * b) ≡ a ∷ b ∷ []
unfolding two_bytes
number-bytes a b h l =
    let low : (a + 256 * b) % 256 ≡ a = omega arith in
    let high : (a + 256 * b) / 256 ≡ b = omega arith in
    let small : b % 256 ≡ b = omega arith in
    rw (low, high, small)

-- a row of n bytes whose bytes from k on are zero
padded_is : (s : List ℕ) (n k : ℕ) → length s ≡ n → k ≤ n → ((i : ℕ) → i < n - k → one s (k + i) ≡ 0) → take k s ++ replicate (n - k) 0 ≡ s
unfolding one
padded_is s n k size h z = ap (λ l. take k s ++ l) (sym tail) ∙ take-append-drop k s
  where
    tail : drop k s ≡ replicate (n - k) 0
    tail =
        ext_get_or 0 (drop k s) (replicate (n - k) 0) (rw (length-drop, length-replicate, size))
        (λ i (l : i < length (drop k s)).
        let b : i < n - k = rw (length-drop, size) at l in
        get_or-drop k s i 0 ∙ z i b ∙ sym (get_or-replicate (n - k) i 0 0 b))

pub written_read : (r : List ℕ) → length r ≡ 16 → one r 0 < 256 → one r 1 < 256 → is_written r ≡ true → written (entry_in r) ≡ r
unfolding written entry_in is_written zeros two one
written_read [] size low high is = absurd (omega arith)
written_read (a ∷ []) size low high is = absurd (omega arith)
written_read (a ∷ b ∷ rest) size low high is =
    let r = a ∷ b ∷ rest in
    let k = name_end r in
    let within : k ≤ 14 = name_end-within r size in
    let long : length (take k rest) ≡ k = length-take-le k rest (omega arith) in
    let zero_behind : (i : ℕ) → i < 14 - k → one rest (k + i) ≡ 0 =
    λ i (h : i < 14 - k).
    let z : 2 + k + i ≡ suc (suc (k + i)) = omega arith in
    let all = and_right (is_syllable (entry_in r).name) (zeros r (2 + k) (14 - k)) is in
    rw z at (eqb-true (one r (2 + k + i)) 0 (every_all (14 - k) (λ i. eqb (one r (2 + k + i)) 0) all i h)) in
    rw (number-bytes a b low high, long) (ap (λ l. a ∷ b ∷ l) (padded_is rest 14 k (omega arith) within zero_behind))
