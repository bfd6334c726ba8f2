use Rattle.std.proofs.Common.{rules}
use Rattle.meaning.specs.Name.{entry_at}
use Rattle.soundness.specs.Rules.{deeper_than, deeper_at}
use Rattle.soundness.specs.Seen.{files_store}
use Rattle.soundness.specs.Slots.{slot}
use Rattle.soundness.proofs.directory.DirectoryRecords.all_deeper.Goals as goal

pub returns : goal.returns
unfolding deeper_at
returns c =
    c.every.ensures
    (λ i. deeper_than (files_store c.args.file_records.now) c.args.depth (entry_at c.args.self.now.blocks.now (slot c.args.self.now.starts.now i)).file)
    (λ i b h post. search rules)
