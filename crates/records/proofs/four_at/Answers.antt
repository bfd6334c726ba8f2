-- Two numbers of two bytes, the low one first.
use Rattle.records.specs.Numbers.{four}
use borrow.Author.Rules.{rules}
use Rattle.records.proofs.four_at.Goals as goal

pub returns : goal.returns
unfolding four
returns c = search rules
