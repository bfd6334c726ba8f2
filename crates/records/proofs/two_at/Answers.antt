-- Two bytes, the low one first.
use Rattle.records.specs.Numbers.{two}
use borrow.Author.Rules.{rules}
use Rattle.records.proofs.two_at.Goals as goal

pub returns : goal.returns
unfolding two
returns c = search rules
