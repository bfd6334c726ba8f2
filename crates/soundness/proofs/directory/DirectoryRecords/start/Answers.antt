use Rattle.soundness.specs.Slots.{slot}
use borrow.Author.Rules.{rules}
use Rattle.soundness.proofs.directory.DirectoryRecords.start.Goals as goal

pub returns : goal.returns
unfolding slot
returns c = search rules
