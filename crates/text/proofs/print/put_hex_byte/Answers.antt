-- Two digits, the high one first.
use Rattle.std.proofs.Common.{ℕ, ◌/◌, ◌%◌, ◌≡◌, List, [], ◌∷◌}
use Rattle.text.specs.Print.{hex_digit, hex}
use Rattle.text.specs.Lays.{Lays}
use Rattle.text.specs.LaysLaws.{lays_both}
use Rattle.text.proofs.print.put_hex_byte.Goals as goal

two_digits : (out between after : List ℕ) (at middle next b high low : ℕ) → high ≡ hex_digit (b / 16) → low ≡ hex_digit (b % 16)
    → Lays out at (high ∷ []) between middle → Lays between middle (low ∷ []) after next → Lays out at (hex (b ∷ [])) after next
unfolding hex
two_digits out between after at middle next b high low h l p q =
    rw (← h, ← l) (lays_both (high ∷ []) (low ∷ []) out between after at middle next p q)

pub returns : goal.returns
returns c = search two_digits
