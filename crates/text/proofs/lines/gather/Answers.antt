use Rattle.text.specs.Gathering.{first_line}
use Rattle.text.proofs.lines.gather.Goals as goal

pub returns-clause-appends : goal.returns-clause-appends
unfolding first_line
returns-clause-appends c before h = rw c.cut.ensures.before at (c.append.ensures.appends before h)
