use Rattle.std.proofs.Common.{rules}
use Rattle.meaning.specs.Tables.{channel_file_at}
use Rattle.tables.specs.Searches.{is_to, channels_with}
use Rattle.tables.proofs.count_channels.Goals as goal

pub returns : goal.returns
unfolding channels_with channel_file_at
returns c = c.how_many.ensures (is_to c.args.records.now c.args.f.0) (λ i b h post. search rules)
