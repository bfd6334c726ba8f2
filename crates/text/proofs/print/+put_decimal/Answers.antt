-- A number below ten is one digit; any other is the digits of its tenth, and its last digit.
use Rattle.std.proofs.Common.{ℕ, ◌+◌, ◌/◌, ◌%◌, ◌≤◌, ◌<◌, ◌^◌, ◌≡◌, List, [], ◌∷◌, length, arith}
use Rattle.text.specs.Print.{decimal}
use Rattle.text.specs.Lays.{Lays, LaysAtMost}
use Rattle.text.specs.LaysLaws.{lays_both}
use Rattle.text.proofs.DigitLaws.{decimal-one, decimal_more, tenth_short, decimal_short}
use Rattle.text.proofs.print.+put_decimal.Goals as goal

module _ (out after : List ℕ) (at next n : ℕ) where
  short : Lays out at (decimal n) after next → LaysAtMost 10 out at (decimal n) after next
  short l = record { lays = l; near = omega (arith, l.ends, decimal_short n) }

  one_digit : n < 10 → Lays out at ((48 + n) ∷ []) after next → LaysAtMost 10 out at (decimal n) after next
  one_digit h l = let e : n % 10 ≡ n = omega arith in short (rw (decimal-one n h, e) l)

  one_more : 10 ≤ n → n < 2 ^ 32 → (between : List ℕ) (middle : ℕ) → Lays out at (decimal (n / 10)) between middle
      → Lays between middle ((48 + n % 10) ∷ []) after next → LaysAtMost 10 out at (decimal n) after next
  one_more h f between middle p q =
      short
      (rw (decimal_more n f h) (lays_both (decimal (n / 10)) ((48 + n % 10) ∷ []) out between after at middle next p q))

-- behind the digits of the tenth there is room
room-left : (out between : List ℕ) (at middle n : ℕ) → at + 10 ≤ length out → n < 2 ^ 32 → length between ≡ length out
    → Lays out at (decimal (n / 10)) between middle → middle < length between
room-left out between at middle n h f e l = omega (arith, l.ends, tenth_short n f)

pub returns-then-n-lt10 : goal.returns-then-n-lt10
returns-then-n-lt10 t c = search one_digit

pub put_byte-requires-2 : goal.put_byte-requires-2
put_byte-requires-2 t c = search room-left

pub returns : goal.returns
returns t c = search one_more
