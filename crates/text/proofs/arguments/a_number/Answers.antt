use Rattle.std.proofs.Common.{◌∙◌}
use Rattle.text.specs.Line.{a_number}
use Rattle.text.proofs.ReadLaws.{given-none, given-some}
use Rattle.text.proofs.arguments.a_number.Goals as goal

pub returns-in_err-word : goal.returns-in_err-word
unfolding a_number
returns-in_err-word c k = rw c.from_residual.ensures (c.in_err-word.ensures _)

pub returns-in_err-number_of : goal.returns-in_err-number_of
unfolding a_number
returns-in_err-number_of c k =
    rw c.from_residual-in_err-number_of.ensures (given-none _ _ c.in_err-number_of.ensures ∙ c.in_ok-word.ensures _)

pub returns : goal.returns
unfolding a_number
returns c k = given-some _ _ _ c.in_ok-number_of.ensures ∙ c.in_ok-word.ensures _
