use Rattle.std.proofs.Common.{rules}
use Rattle.meaning.specs.Sound.{record_sound}
use Rattle.soundness.specs.Rules.{records_at}
use Rattle.soundness.specs.Seen.{files_store}
use Rattle.soundness.specs.Slots.{slot}
use Rattle.soundness.proofs.directory.DirectoryRecords.all_sound.Goals as goal

pub returns : goal.returns
unfolding records_at
returns c =
    c.every.ensures (λ i. record_sound (files_store c.args.file_records.now) c.args.self.now.blocks.now (slot c.args.self.now.starts.now i)) (λ i b h post. search rules)
