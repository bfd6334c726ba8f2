use Rattle.std.proofs.Common.{rules}
use Rattle.directories.specs.Find.{blank_at}
use Rattle.directories.specs.FindLaws.{blank_test}
use Rattle.directories.proofs.find_blank.Goals as goal

pub returns : goal.returns
returns c = c.lowest_record.ensures (blank_at c.args.store.now.blocks.now) (λ at b inside post. blank_test _ _ _ (search rules))
