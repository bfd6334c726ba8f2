use Rattle.std.proofs.Common.{rules}
use Rattle.directories.specs.Find.{named_at}
use Rattle.directories.specs.FindLaws.{named_test}
use Rattle.directories.proofs.find_named.Goals as goal

pub returns : goal.returns
returns c =
    c.lowest_record.ensures (named_at c.args.store.now.blocks.now c.args.syllable.now) (λ at b inside post. named_test _ _ _ _ (search rules))
