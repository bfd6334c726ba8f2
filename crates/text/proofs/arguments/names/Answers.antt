use Rattle.std.proofs.Common.{◌∙◌}
use Rattle.text.specs.Line.{two_names}
use Rattle.text.proofs.arguments.names.Goals as goal

pub returns-in_err-old : goal.returns-in_err-old
unfolding two_names
returns-in_err-old c call = rw c.from_residual.ensures (c.in_err-old.ensures _)

pub returns-in_err-name : goal.returns-in_err-name
unfolding two_names
returns-in_err-name c call = rw c.from_residual-in_err-name.ensures (c.in_err-name.ensures _ ∙ c.in_ok-old.ensures _)

pub returns : goal.returns
unfolding two_names
returns c call = c.in_ok-name.ensures _ ∙ c.in_ok-old.ensures _
