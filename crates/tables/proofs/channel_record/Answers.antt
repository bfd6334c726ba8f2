use Rattle.meaning.specs.Tables.{channel_file_at, position_at}
use borrow.Author.Rules.{rules}
use Rattle.tables.proofs.channel_record.Goals as goal

pub returns : goal.returns
unfolding channel_file_at position_at
returns c = search rules
