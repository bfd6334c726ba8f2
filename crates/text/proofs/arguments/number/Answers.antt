use Rattle.std.proofs.Common.{◌∙◌}
use Rattle.text.specs.Line.{last_number}
use Rattle.text.proofs.arguments.number.Goals as goal

pub returns-in_err-n : goal.returns-in_err-n
unfolding last_number
returns-in_err-n c call = rw c.from_residual.ensures (c.in_err-n.ensures _)

pub returns-in_err-ended : goal.returns-in_err-ended
unfolding last_number
returns-in_err-ended c call = rw c.from_residual-in_err-ended.ensures (c.in_err-ended.ensures _ ∙ c.in_ok-n.ensures _)

pub returns : goal.returns
unfolding last_number
returns c call = c.in_ok-ended.ensures _ ∙ c.in_ok-n.ensures _
