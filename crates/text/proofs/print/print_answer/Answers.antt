-- The report and the numbers, or a refusal.
use Rattle.std.proofs.Common.{[], ap, sym, ◌∙◌}
use Rattle.meaning.specs.Run.{accepted}
use Rattle.meaning.specs.Answers.{answered}
use Rattle.text.proofs.PrintLaws.{numbers_alone, refusal_line}
use Rattle.text.proofs.print.print_answer.Goals as goal

pub returns-in-Ok : goal.returns-in-Ok
returns-in-Ok g c n =
    numbers_alone _ _ _ _ _ _ _ _ _ _ (ap (answered n g.T.Values.numbers) c.in-Ok.is ∙ ap accepted (sym c.numbers.ensures)) c.put_byte-next.ensures
    c.put_numbers-end.ensures.lays c.put_byte.ensures

pub returns-in-Err : goal.returns-in-Err
returns-in-Err g c n = refusal_line _ n _ [] _ _ _ _ (ap (answered n g.T.Values.numbers) c.in-Err.is) c.print_refusal.ensures
