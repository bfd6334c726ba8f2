-- Every byte passed is a digit, and what is left of the word takes the value so far to the word's value. A value only grows, so one
-- above the limit stays above it.
use Rattle.std.proofs.Common.{ℕ, ◌≡◌, ◌≤◌, List, Bool, true, drop}
use Rattle.records.specs.Rows.{every}
use Rattle.records.specs.Numbers.{one}
use Rattle.text.specs.Line.{is_digit, value_from}
use Rattle.text.proofs.arguments.number_of.Given as goal

-- a byte of a word is a digit, or not
abbrev pub digit_at : List ℕ → ℕ → Bool
digit_at word i = is_digit (one word i)

abbrev pub invariant-loop-b : goal.invariant-loop-b
invariant-loop-b l =
    (l.value ≤ 4294967295) × (every l.b-index (digit_at l.word) ≡ true) × (value_from 0 l.word ≡ value_from l.value (drop l.b-index l.word))
