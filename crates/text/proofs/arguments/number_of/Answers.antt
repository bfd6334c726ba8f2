use Rattle.std.proofs.Common.{rules, arith, ℕ, ◌+◌, ◌-◌, ◌*◌, ◌≤◌, ◌<◌, ◌≡◌, refl, ◌∙◌, List, [], ◌∷◌, Bool, true, false, Some, None, length, get_or, drop, add-one, ltb, lt-ltb, le-ltb, le-leb}
use Rattle.std.specs.Char.{is_ascii_digit}
use lib.ListN.{drop_of_length-le}
use lib.Seq.{drop-cons}
use borrow.Author.Tests.{lt-leb}
use Rattle.std.proofs.lemmas.Bool.Decides.{nat_tests}
use Rattle.records.specs.Rows.{every}
use Rattle.records.specs.Numbers.{one}
use Rattle.records.specs.Tests.{and_false}
use Rattle.records.specs.LoopLaws.{every_start, every-step, every_fail}
use Rattle.text.specs.Line.{is_digit, value_from, number}
use Rattle.text.proofs.arguments.number_of.Invariants.{digit_at}
use Rattle.text.proofs.arguments.number_of.Goals as goal

-- std's digits are ours
digit : (word : List ℕ) (i : ℕ) (t : Bool) → t ≡ is_ascii_digit (get_or word i 0) → digit_at word i ≡ t
unfolding is_digit one
digit word i t e = grind (arith, nat_tests)

-- a value only grows
grows : (digits : List ℕ) (n : ℕ) → n ≤ value_from n digits
unfolding value_from
grows [] n = omega arith
grows (d ∷ digits) n = omega (arith, grows digits (10 * n + (d - 48)))

module _ (word : List ℕ) where
  empty : length word ≡ 0 → None ≡ number word
  unfolding number
  empty e = rw (le-ltb 0 (length word) (omega arith))

  module _ (some_byte : length word ≡ 0 → ⊥) (i : ℕ) (h : i < length word) where
    nonempty : ltb 0 (length word) ≡ true
    nonempty = lt-ltb 0 (length word) (omega arith)

    not_digit : digit_at word i ≡ false → None ≡ number word
    unfolding number
    not_digit e = rw (nonempty, every_fail (digit_at word) i (length word) h e)

    module _ (value : ℕ) (so_far : value_from 0 word ≡ value_from value (drop i word)) where
      next_value : value_from 0 word ≡ value_from (10 * value + (get_or word i 0 - 48)) (drop (i + 1) word)
      unfolding value_from
      next_value = so_far ∙ rw (drop-cons word i 0 h, add-one)

      too_large : 4294967295 < 10 * value + (get_or word i 0 - 48) → None ≡ number word
      unfolding number
      too_large g =
          let l : 4294967295 < value_from 0 word = omega (arith, next_value, grows (drop (i + 1) word) (10 * value + (get_or word i 0 - 48))) in
          rw (nonempty, lt-leb (value_from 0 word) 4294967295 l, and_false)

    one_more : every i (digit_at word) ≡ true → digit_at word i ≡ true → every (i + 1) (digit_at word) ≡ true
    one_more e d = every-step (digit_at word) i e d

  module _ (some_byte : length word ≡ 0 → ⊥) (i value : ℕ) where
    all_digits : i ≤ length word → length word ≤ i → value ≤ 4294967295 → every i (digit_at word) ≡ true
        → value_from 0 word ≡ value_from value (drop i word) → Some value ≡ number word
    unfolding number value_from
    all_digits g h l e v =
        let at-end : i ≡ length word = omega arith in
        let is : value_from 0 word ≡ value = v ∙ rw (drop_of_length-le word h) in
        let digits : every (length word) (digit_at word) ≡ true = rw at-end at e in
        rw (is, lt-ltb 0 (length word) (omega arith), digits, le-leb value 4294967295 l)

pub returns-then-is_empty : goal.returns-then-is_empty
returns-then-is_empty c = empty _ (grind (arith, nat_tests))

pub loop-b-init : goal.loop-b-init
loop-b-init c = (search rules, search every_start, refl)

pub returns-then-not-is_ascii_digit : goal.returns-then-not-is_ascii_digit
returns-then-not-is_ascii_digit c =
    not_digit _ (grind (arith, nat_tests)) _ c.loop-b-test.true (digit _ _ _ c.if-not-is_ascii_digit.ensures.value)

pub returns-then-value : goal.returns-then-value
returns-then-value c = too_large _ (grind (arith, nat_tests)) _ c.loop-b-test.true _ c.loop-b.invariant.2 c.if-value.true

pub loop-b-preserved : goal.loop-b-preserved
loop-b-preserved c = (
  search rules,
  one_more _ (grind (arith, nat_tests)) _ c.loop-b-test.true c.loop-b.invariant.1 (digit _ _ _ c.if-not-is_ascii_digit.ensures.value),
  next_value _ (grind (arith, nat_tests)) _ c.loop-b-test.true _ c.loop-b.invariant.2,
)

pub returns : goal.returns
returns c = all_digits _ (grind (arith, nat_tests)) _ _ (search rules) (search rules) (search rules) c.loop-b.invariant.1 c.loop-b.invariant.2
