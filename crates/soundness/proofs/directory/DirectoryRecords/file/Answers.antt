use Rattle.std.proofs.Common.{sym, ap, ◌∙◌}
use Rattle.names.specs.RecordNames.{entry-at}
use Rattle.soundness.specs.Slots.{slot}
use Rattle.soundness.proofs.directory.DirectoryRecords.file.Goals as goal

pub returns : goal.returns
returns c =
    let is = entry-at c.args.self.now.blocks.now (slot c.args.self.now.starts.now c.args.i) in
    c.record_file.ensures ∙ rw c.start.ensures.at (ap (λ e. e.file) (sym is))
