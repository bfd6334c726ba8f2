use Rattle.std.proofs.Common.{rules, ◌≤◌}
use Rattle.meaning.specs.Tables.{file_length}
use Rattle.soundness.specs.SoundLaws.{files_short}
use Rattle.soundness.specs.PlaceCounts.{counted_once}
use Rattle.soundness.proofs.placed.all_counted.Goals as goal

pub every_file-requires-clause-asked : goal.every_file-requires-clause-asked
every_file-requires-clause-asked c f some within =
    let short : file_length c.args.file_records.now f.0 ≤ 32768 = files_short c.args.file_records.now c.requires.1 f.0 within in
    search rules

pub returns : goal.returns
unfolding counted_once
returns c = c.every_file.ensures (counted_once c.args.counts.now c.args.file_records.now) (λ f b some within post. search rules)
