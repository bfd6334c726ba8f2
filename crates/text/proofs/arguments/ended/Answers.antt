use Rattle.std.proofs.Common.{rules}
use Rattle.text.specs.Line.{nothing}
use Rattle.text.proofs.arguments.ended.Goals as goal

pub returns-in-None : goal.returns-in-None
unfolding nothing
returns-in-None c = search rules

pub returns-in-Some : goal.returns-in-Some
unfolding nothing
returns-in-Some c = search rules
