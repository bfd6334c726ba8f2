use Rattle.meaning.specs.Tables.{kind_at, depth_at, length_at}
use borrow.Author.Rules.{rules}
use Rattle.tables.proofs.file_record.Goals as goal

pub returns : goal.returns
unfolding kind_at depth_at length_at
returns c = search rules
