use Rattle.records.specs.Numbers.{one}
use borrow.Author.Rules.{rules}
use Rattle.records.proofs.one_at.Goals as goal

pub returns : goal.returns
unfolding one
returns c = search rules
