-- Laws of numbers in bytes. An index `j` with `j ≡ ..` is free, so that a caller's own form of it serves.
use Rattle.std.specs.Prelude.{ℕ, ◌+◌, ◌*◌, ◌/◌, ◌%◌, ◌≤◌, ◌<◌, ◌≡◌, refl, ◌≢◌, List, ◌++◌, true, false, length, get_or}
use Rattle.std.proofs.Common.{ap, ⊎_elim, arith, add-zero, add_assoc, get_or-append-add}
use Rattle.std.proofs.Math.ListN.{get_or-append}
use Rattle.std.proofs.Math.Dec.{eqb}
use borrow.Author.Tests.{eq-eqb, eqb-true}
use Rattle.records.specs.RowLaws.{every_all, all_every, every_cong}
use Rattle.records.specs.Tests.{lt_or_ge, same_or_not, not_so}
use Rattle.records.specs.Numbers.{one, two, four, two_bytes, four_bytes, zeros}

-- ---- a number and its bytes

pub length-two_bytes : (n : ℕ) → length (two_bytes n) ≡ 2
unfolding two_bytes
length-two_bytes n = refl

-- a number that fits comes back from its bytes
pub two_of : (n : ℕ) → n < 65536 → two (two_bytes n) 0 ≡ n
unfolding two one two_bytes
two_of n h = omega arith

pub four_of : (n : ℕ) → n < 4294967296 → four (four_bytes n) 0 ≡ n
unfolding four two one four_bytes two_bytes
four_of n h = omega arith

-- two bytes hold what is left of a number by 65536
remainder : (x q k : ℕ) → x ≡ 256 * q + k → k < 256 → x % 256 ≡ k
remainder x q k e h = let f : x / 256 ≡ q = omega arith in omega arith

pub low_half : (n : ℕ) → two_bytes (n % 65536) ≡ two_bytes n
unfolding two_bytes
low_half n =
    let small : n % 65536 / 256 < 256 = omega arith in
    let low : n % 65536 % 256 ≡ n % 256 = omega arith in
    let high : n / 256 % 256 ≡ n % 65536 / 256 = remainder (n / 256) (n / 65536) (n % 65536 / 256) (omega arith) small in
    let same : n % 65536 / 256 % 256 ≡ n % 65536 / 256 = omega arith in
    rw (low, high, same)

-- a number of two or four bytes fits
module _ (l : List ℕ) (bytes : (j : ℕ) → get_or l j 0 < 256) where
  pub two_small : (at : ℕ) → two l at < 65536
  unfolding two one
  two_small at = omega (arith, bytes at, bytes (at + 1))

-- ---- equal bytes give equal numbers

pub one_cong : (l m : List ℕ) (i j : ℕ) → get_or l i 0 ≡ get_or m j 0 → one l i ≡ one m j
unfolding one
one_cong l m i j e = e

pub two_cong : (l m : List ℕ) (i j : ℕ) → ((k : ℕ) → k < 2 → get_or l (i + k) 0 ≡ get_or m (j + k) 0) → two l i ≡ two m j
unfolding two one
two_cong l m i j e =
    let first : get_or l i 0 ≡ get_or m j 0 = simp add-zero at (e 0 (omega arith)) in
    omega (arith, e 1 (omega arith))

pub four_cong : (l m : List ℕ) (i j : ℕ) → ((k : ℕ) → k < 4 → get_or l (i + k) 0 ≡ get_or m (j + k) 0) → four l i ≡ four m j
unfolding four
four_cong l m i j e =
    let low : two l i ≡ two m j = two_cong l m i j (λ k (h : k < 2). e k (omega arith)) in
    let high : two l (i + 2) ≡ two m (j + 2) =
    two_cong l m (i + 2) (j + 2) (λ k (h : k < 2). simp add_assoc (e (2 + k) (omega arith))) in
    omega arith

pub zeros_cong : (l m : List ℕ) (i j n : ℕ) → ((k : ℕ) → k < n → get_or l (i + k) 0 ≡ get_or m (j + k) 0) → zeros l i n ≡ zeros m j n
unfolding zeros one
zeros_cong l m i j n e =
    every_cong n (λ k. eqb (get_or l (i + k) 0) 0) (λ k. eqb (get_or m (j + k) 0) 0) (λ k h. ap (λ b. eqb b 0) (e k h))

-- ---- two lists one after the other

module _ (xs ys : List ℕ) where
  -- read in the first
  pub two-first : (at : ℕ) → at + 2 ≤ length xs → two (xs ++ ys) at ≡ two xs at
  two-first at h = two_cong (xs ++ ys) xs at at (λ k (l : k < 2). get_or-append xs ys 0 (at + k) (omega arith))

  -- read in the second
  second : (at j k : ℕ) → j ≡ length xs + at → get_or (xs ++ ys) (j + k) 0 ≡ get_or ys (at + k) 0
  second at j k e = let e' : j + k ≡ length xs + (at + k) = omega arith in rw e' (get_or-append-add xs ys (at + k) 0)

  pub two-second : (at j : ℕ) → j ≡ length xs + at → two (xs ++ ys) j ≡ two ys at
  two-second at j e = two_cong (xs ++ ys) ys j at (λ k l. second at j k e)

  pub four-second : (at j : ℕ) → j ≡ length xs + at → four (xs ++ ys) j ≡ four ys at
  four-second at j e = four_cong (xs ++ ys) ys j at (λ k l. second at j k e)

-- ---- bytes that are zero

module _ (l : List ℕ) (at n : ℕ) where
  pub zeros_zero : zeros l at n ≡ true → (i : ℕ) → i < n → get_or l (at + i) 0 ≡ 0
  unfolding zeros one
  zeros_zero z i h = eqb-true (get_or l (at + i) 0) 0 (every_all n (λ i. eqb (get_or l (at + i) 0) 0) z i h)

  pub zero_zeros : ((i : ℕ) → i < n → get_or l (at + i) 0 ≡ 0) → zeros l at n ≡ true
  unfolding zeros one
  zero_zeros z = all_every n (λ i. eqb (get_or l (at + i) 0) 0) (λ i (h : i < n). eq-eqb (get_or l (at + i) 0) 0 (z i h))

  pub zeros_less : (m : ℕ) → m ≤ n → zeros l at n ≡ true → zeros l at m ≡ true
  unfolding zeros
  zeros_less m h z = all_every m (λ i. eqb (one l (at + i)) 0) (λ i (b : i < m). every_all n (λ i. eqb (one l (at + i)) 0) z i (omega arith))

-- ---- zeros, four at a time

-- four bytes are zero just where their number is
four_zero : (l : List ℕ) (at : ℕ) → get_or l at 0 ≡ 0 → get_or l (at + 1) 0 ≡ 0 → get_or l (at + 2) 0 ≡ 0 → get_or l (at + 2 + 1) 0 ≡ 0 → four l at ≡ 0
unfolding four two one
four_zero l at a b c d = omega arith

zero_four : (l : List ℕ) (at : ℕ) → four l at ≡ 0 → (j : ℕ) → at ≤ j → j < at + 4 → get_or l j 0 ≡ 0
unfolding four two one
zero_four l at e j low high =
    let a : get_or l at 0 ≡ 0 = omega arith in
    let b : get_or l (at + 1) 0 ≡ 0 = omega arith in
    let c : get_or l (at + 2) 0 ≡ 0 = omega arith in
    let d : get_or l (at + 2 + 1) 0 ≡ 0 = omega arith in
    ⊎_elim
    (λ (s : j ≡ at). rw s a)
    (λ (n : j ≢ at). ⊎_elim
    (λ (s : j ≡ at + 1). rw s b)
    (λ (m : j ≢ at + 1). ⊎_elim
    (λ (s : j ≡ at + 2). rw s c)
    (λ (o : j ≢ at + 2). let s : j ≡ at + 2 + 1 = omega arith in rw s d)
    (same_or_not j (at + 2)))
    (same_or_not j (at + 1)))
    (same_or_not j at)

module _ (l : List ℕ) (at k : ℕ) where
  pub zeros-four : zeros l at (4 * k) ≡ true → four l (at + 4 * k) ≡ 0 → zeros l at (4 * (k + 1)) ≡ true
  zeros-four z e =
      zero_zeros l at (4 * (k + 1))
      (λ i (h : i < 4 * (k + 1)). ⊎_elim
      (λ (b : i < 4 * k). zeros_zero l at (4 * k) z i b)
      (λ (b : 4 * k ≤ i). zero_four l (at + 4 * k) e (at + i) (omega arith) (omega arith))
      (lt_or_ge i (4 * k)))

  pub zeros-other : (n : ℕ) → k < n → four l (at + 4 * k) ≢ 0 → zeros l at (4 * n) ≡ false
  zeros-other n h d = not_so (zeros l at (4 * n)) (λ z. d (four_zero l (at + 4 * k) (byte z 0 _ (omega arith) (omega arith)) (byte z 1 _ (omega arith) refl) (byte z 2 _ (omega arith) refl) (byte z 3 _ (omega arith) (omega arith))))
    where
      byte : zeros l at (4 * n) ≡ true → (i j : ℕ) → i < 4 → j ≡ at + 4 * k + i → get_or l j 0 ≡ 0
      byte z i j b e = let s : at + (4 * k + i) ≡ j = omega arith in rw s at (zeros_zero l at (4 * n) z (4 * k + i) (omega arith))
