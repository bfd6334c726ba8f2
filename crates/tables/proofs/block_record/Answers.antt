use Rattle.meaning.specs.Tables.{owner, place}
use borrow.Author.Rules.{rules}
use Rattle.tables.proofs.block_record.Goals as goal

pub returns : goal.returns
unfolding owner place
returns c = search rules
