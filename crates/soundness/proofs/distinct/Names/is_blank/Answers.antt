use Rattle.std.proofs.Common.{◌∙◌}
use Rattle.meaning.specs.Name.{is_blank}
use Rattle.soundness.proofs.distinct.Names.is_blank.Goals as goal

pub returns : goal.returns
unfolding is_blank
returns c = c.zeros_at.ensures ∙ rw c.start.ensures.at
