use Rattle.std.proofs.Common.{rules}
use Rattle.meaning.specs.Tables.{store_of}
use Rattle.soundness.specs.Rules.{named_by, all_named_by}
use Rattle.soundness.specs.Seen.{channels_of}
use Rattle.soundness.proofs.counted.all_named.Goals as goal

pub returns : goal.returns
unfolding all_named_by store_of
returns c = c.every_file.ensures (named_by (channels_of c.args.store.now) c.args.counts.now) (λ f b some within post. search rules)
