use Rattle.std.proofs.Common.{◌∙◌}
use Rattle.text.specs.Words.{to_write}
use Rattle.text.proofs.arguments.to_write.Goals as goal

pub returns-in_err-c : goal.returns-in_err-c
unfolding to_write
returns-in_err-c c = rw c.from_residual.ensures (c.in_err-c.ensures _)

pub returns-in_err-the_data : goal.returns-in_err-the_data
unfolding to_write
returns-in_err-the_data c = rw c.from_residual-in_err-the_data.ensures (c.in_err-the_data.ensures _ ∙ c.in_ok-c.ensures _)

pub returns : goal.returns
unfolding to_write
returns c = c.in_ok-the_data.ensures _ ∙ c.in_ok-c.ensures _
