use Rattle.std.proofs.Common.{◌∙◌}
use Rattle.text.specs.Line.{a_name}
use Rattle.text.proofs.arguments.name.Goals as goal

pub returns-in_err-name : goal.returns-in_err-name
unfolding a_name
returns-in_err-name c call = rw c.from_residual.ensures (c.in_err-name.ensures _)

pub returns-in_err-ended : goal.returns-in_err-ended
unfolding a_name
returns-in_err-ended c call = rw c.from_residual-in_err-ended.ensures (c.in_err-ended.ensures _ ∙ c.in_ok-name.ensures _)

pub returns : goal.returns
unfolding a_name
returns c call = c.in_ok-ended.ensures _ ∙ c.in_ok-name.ensures _
