-- Laws of numbers in decimal: a number has no more digits than it needs, ten digits are enough for 32 bits, and they are what std writes.
use Rattle.std.proofs.Common.{ℕ, zero, suc, ◌+◌, ◌*◌, ◌/◌, ◌%◌, ◌≤◌, ◌<◌, ◌^◌, ◌≡◌, sym, ap, ◌∙◌, ⊎_elim, [], ◌∷◌, ◌++◌, length, length-append, arith, lt-ltb, le-ltb}
use Rattle.std.specs.Fmt as fmt
use Rattle.std.proofs.lemmas.Fmt.{AppendsLastDigit, decimal_from_appends, length-decimal-le}
use Rattle.records.specs.Tests.{lt_or_ge}
use Rattle.text.specs.Print.{digits, decimal}

-- 10, m times
tens : ℕ → ℕ
tens zero = 1
tens (suc m) = 10 * tens m

digits_small : (m n : ℕ) → n < 10 → digits (suc m) n ≡ (48 + n % 10) ∷ []
unfolding digits
digits_small m n h = rw (lt-ltb n 10 h)

digits_large : (m n : ℕ) → 10 ≤ n → digits (suc m) n ≡ digits m (n / 10) ++ ((48 + n % 10) ∷ [])
unfolding digits
digits_large m n h = rw (le-ltb n 10 h)

-- at most so many
digits_short : (m n : ℕ) → length (digits m n) ≤ m
unfolding digits
digits_short zero n = omega arith
digits_short (suc m) n =
    ⊎_elim
    (λ (h : n < 10). rw (digits_small m n h) (omega arith))
    (λ (h : 10 ≤ n). rw (digits_large m n h, length-append) (omega (arith, digits_short m (n / 10))))
    (lt_or_ge n 10)

-- room for one digit more changes nothing
digits_enough : (m n : ℕ) → n < tens (suc m) → digits (suc m) n ≡ digits (suc (suc m)) n
unfolding tens
digits_enough zero n h = digits_small 0 n (omega arith) ∙ sym (digits_small 1 n (omega arith))
digits_enough (suc m) n h =
    ⊎_elim
    (λ (l : n < 10). digits_small (suc m) n l ∙ sym (digits_small (suc (suc m)) n l))
    (λ (l : 10 ≤ n).
    digits_large (suc m) n l ∙ ap (λ ds. ds ++ ((48 + n % 10) ∷ [])) (digits_enough m (n / 10) (omega arith))
    ∙ sym (digits_large (suc (suc m)) n l))
    (lt_or_ge n 10)

pub decimal-one : (n : ℕ) → n < 10 → decimal n ≡ (48 + n % 10) ∷ []
unfolding decimal
decimal-one n h = digits_small 9 n h

module _ (n : ℕ) (fits : n < 2 ^ 32) where
  tenth : decimal (n / 10) ≡ digits 9 (n / 10)
  unfolding decimal tens
  tenth = sym (digits_enough 8 (n / 10) (omega arith))

  pub decimal_more : 10 ≤ n → decimal n ≡ decimal (n / 10) ++ ((48 + n % 10) ∷ [])
  unfolding decimal
  decimal_more h = digits_large 9 n h ∙ ap (λ ds. ds ++ ((48 + n % 10) ∷ [])) (sym tenth)

  pub tenth_short : length (decimal (n / 10)) ≤ 9
  tenth_short = rw tenth (digits_short 9 (n / 10))

pub decimal_short : (n : ℕ) → length (decimal n) ≤ 10
unfolding decimal
decimal_short n = digits_short 10 n

-- what std writes of a number
last_digit : AppendsLastDigit digits
unfolding digits
last_digit =
    record {
      one = λ k n h. rw (lt-ltb n 10 h) (let e : n % 10 ≡ n = omega arith in rw e);
      more = λ k n h. rw (le-ltb n 10 h);
    }

pub std-decimal : (n : ℕ) → n < 2 ^ 32 → fmt.decimal n ≡ decimal n
unfolding decimal
std-decimal n h = sym (decimal_from_appends digits last_digit 10 n (omega arith) (length-decimal-le 10 n (omega arith) (omega arith) (omega arith)))
