use Rattle.std.proofs.Common.{rules}
use Rattle.meaning.specs.Tables.{kind_at}
use Rattle.tables.specs.Searches.{is_of_kind, files_with}
use Rattle.tables.proofs.count_files.Goals as goal

pub returns : goal.returns
unfolding files_with kind_at
returns c = c.how_many.ensures (is_of_kind c.args.records.now c.args.kind) (λ i b h post. search rules)
