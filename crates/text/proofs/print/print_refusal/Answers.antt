-- The number of the report, and the newline.
use Rattle.std.proofs.Common.{ℕ, ◌≡◌, List, [], ◌∷◌, ◌++◌}
use Rattle.meaning.specs.Run.{number_of}
use Rattle.meaning.specs.declared.Report.{Report}
use Rattle.text.specs.Print.{decimal, newline}
use Rattle.text.specs.Lays.{Lays, LaysAtMost}
use Rattle.text.specs.LaysLaws.{lays_both}
use Rattle.text.proofs.print.print_refusal.Goals as goal

refused : (out between after : List ℕ) (at middle next n : ℕ) (why : Report) → n ≡ number_of why → LaysAtMost 10 out at (decimal n) between middle
    → Lays between middle (newline ∷ []) after next → Lays out at (decimal (number_of why) ++ newline ∷ []) after next
refused out between after at middle next n why e p q =
    rw (← e) (lays_both (decimal n) (newline ∷ []) out between after at middle next p.lays q)

pub returns : goal.returns
returns c = search refused
