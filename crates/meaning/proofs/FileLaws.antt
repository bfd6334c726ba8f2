-- The bytes and the length of a file that is read, overlaid or written: the source's overriding, byte by byte.
use Rattle.std.specs.Prelude.{ℕ, ◌+◌, ◌-◌, ◌≤◌, ◌<◌, min, max, ◌≡◌, List, ◌++◌, length, get_or, take, drop}
use Rattle.std.proofs.Math.Path.{ap}
use Rattle.std.proofs.Common.{sym, ◌∙◌, ⊎_elim, arith, length-append, length-drop, get_or-append-add}
use Rattle.std.proofs.Math.ListN.{length-take, get_or-append, get_or-eq_default}
use Rattle.std.proofs.lemmas.List.{length-replicate, get_or-replicate}
use Rattle.std.proofs.Math.Seq.{get_or-drop, get_or-take}
use Rattle.records.specs.Tests.{lt_or_ge}
use Rattle.meaning.specs.File.{readFILE, over, over_from, zero_bytes, writeFILE}

-- ---- a row appended to another

module _ (xs ys : List ℕ) where
  pub byte_first : (k : ℕ) → k < length xs → get_or (xs ++ ys) k 0 ≡ get_or xs k 0
  byte_first k h = get_or-append xs ys 0 k h

  pub byte_second : (k : ℕ) → length xs ≤ k → get_or (xs ++ ys) k 0 ≡ get_or ys (k - length xs) 0
  byte_second k h =
      let e : k ≡ length xs + (k - length xs) = omega arith in
      ap (λ (j : ℕ). get_or (xs ++ ys) j 0) e ∙ get_or-append-add xs ys (k - length xs) 0

-- a byte past the end is 0
pub byte_past : (l : List ℕ) (k : ℕ) → length l ≤ k → get_or l k 0 ≡ 0
byte_past l k h = get_or-eq_default l 0 h

pub length-zeros : (n : ℕ) → length (zero_bytes n) ≡ n
length-zeros n = length-replicate n 0

-- ---- reading

module _ (file : List ℕ) (offset count : ℕ) where
  pub length-read : length (readFILE file offset count) ≡ min count (length file - offset)
  unfolding readFILE
  length-read = length-take count (drop offset file) ∙ ap (min count) (length-drop offset file)

  pub byte_read : (k : ℕ) → k < count → get_or (readFILE file offset count) k 0 ≡ get_or file (offset + k) 0
  unfolding readFILE
  byte_read k h = get_or-take count (drop offset file) k 0 h ∙ get_or-drop offset file k 0

-- ---- one row over another

module _ (lower upper : List ℕ) where
  pub length_over : length (over lower upper) ≡ max (length lower) (length upper)
  length_over = omega (arith, length-append upper (drop (length upper) lower), length-drop (length upper) lower)

  pub byte_upper : (k : ℕ) → k < length upper → get_or (over lower upper) k 0 ≡ get_or upper k 0
  byte_upper k h = byte_first upper (drop (length upper) lower) k h

  pub byte_lower : (k : ℕ) → length upper ≤ k → get_or (over lower upper) k 0 ≡ get_or lower k 0
  byte_lower k h =
      let e : length upper + (k - length upper) ≡ k = omega arith in
      byte_second upper (drop (length upper) lower) k h ∙ get_or-drop (length upper) lower (k - length upper) 0 ∙ ap (λ (j : ℕ). get_or lower j 0) e

-- ---- one row over another, shifted

module _ (offset : ℕ) (lower upper : List ℕ) (reaches : offset ≤ length lower) where
  length_front : length (take offset lower) ≡ offset
  length_front = omega (arith, length-take offset lower)

  pub length-over_from : length (over_from offset lower upper) ≡ max (length lower) (offset + length upper)
  length-over_from =
      omega (arith, length-append (take offset lower) (over (drop offset lower) upper), length_front, length_over (drop offset lower) upper, length-drop offset lower)

  pub byte_front : (k : ℕ) → k < offset → get_or (over_from offset lower upper) k 0 ≡ get_or lower k 0
  byte_front k h =
      byte_first (take offset lower) (over (drop offset lower) upper) k (omega (arith, length_front)) ∙ get_or-take offset lower k 0 h

  at_offset : (k : ℕ) → offset ≤ k → get_or (over_from offset lower upper) k 0 ≡ get_or (over (drop offset lower) upper) (k - offset) 0
  at_offset k h =
      byte_second (take offset lower) (over (drop offset lower) upper) k (omega (arith, length_front))
      ∙ ap (λ (n : ℕ). get_or (over (drop offset lower) upper) (k - n) 0) length_front

  pub byte_shifted : (k : ℕ) → offset ≤ k → k < offset + length upper → get_or (over_from offset lower upper) k 0 ≡ get_or upper (k - offset) 0
  byte_shifted k h l = at_offset k h ∙ byte_upper (drop offset lower) upper (k - offset) (omega arith)

  pub byte_behind : (k : ℕ) → offset + length upper ≤ k → get_or (over_from offset lower upper) k 0 ≡ get_or lower k 0
  byte_behind k h =
      let e : offset + (k - offset) ≡ k = omega arith in
      at_offset k (omega arith) ∙ byte_lower (drop offset lower) upper (k - offset) (omega arith) ∙ get_or-drop offset lower (k - offset) 0 ∙ ap (λ (j : ℕ). get_or lower j 0) e

-- ---- writing: the data's bytes, else the file's, else zero

module _ (file : List ℕ) (offset : ℕ) (bytes : List ℕ) where
  reaches : offset ≤ length (over (zero_bytes offset) file)
  reaches = omega (arith, length_over (zero_bytes offset) file, length-zeros offset)

  pub length-write : length (writeFILE file offset bytes) ≡ max (length file) (offset + length bytes)
  unfolding writeFILE
  length-write =
      omega (arith, length-over_from offset (over (zero_bytes offset) file) bytes reaches, length_over (zero_bytes offset) file, length-zeros offset)

  pub byte_data : (k : ℕ) → offset ≤ k → k < offset + length bytes → get_or (writeFILE file offset bytes) k 0 ≡ get_or bytes (k - offset) 0
  unfolding writeFILE
  byte_data k h l = byte_shifted offset (over (zero_bytes offset) file) bytes reaches k h l

  under : (k : ℕ) → get_or (over (zero_bytes offset) file) k 0 ≡ get_or file k 0
  under k =
      ⊎_elim
      (λ (h : k < length file). byte_upper (zero_bytes offset) file k h)
      (λ (h : length file ≤ k). byte_lower (zero_bytes offset) file k h ∙ zeros ∙ sym (byte_past file k h))
      (lt_or_ge k (length file))
    where
      zeros : get_or (zero_bytes offset) k 0 ≡ 0
      zeros =
          ⊎_elim
          (λ (h : k < offset). get_or-replicate offset k 0 0 h)
          (λ (h : offset ≤ k). byte_past (zero_bytes offset) k (omega (arith, length-zeros offset)))
          (lt_or_ge k offset)

  -- before the data and behind it: the file's byte, which is 0 past its end
  pub byte_before : (k : ℕ) → k < offset → get_or (writeFILE file offset bytes) k 0 ≡ get_or file k 0
  unfolding writeFILE
  byte_before k h = byte_front offset (over (zero_bytes offset) file) bytes reaches k h ∙ under k

  pub byte_after : (k : ℕ) → offset + length bytes ≤ k → get_or (writeFILE file offset bytes) k 0 ≡ get_or file k 0
  unfolding writeFILE
  byte_after k h = byte_behind offset (over (zero_bytes offset) file) bytes reaches k h ∙ under k
