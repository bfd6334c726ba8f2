use Rattle.std.proofs.Common.{rules, ◌≤◌}
use Rattle.meaning.specs.Sound.{placed_once}
use Rattle.meaning.specs.Tables.{file_length}
use Rattle.tables.specs.Searches.{blocks_with}
use Rattle.soundness.specs.SoundLaws.{files_short}
use Rattle.soundness.specs.Rules.{placed_below}
use Rattle.soundness.specs.Seen.{records_of}
use Rattle.soundness.proofs.placed.places_searched.Goals as goal

pub every_file-requires-clause-asked : goal.every_file-requires-clause-asked
every_file-requires-clause-asked c f some within =
    let files = c.args.store.now.file_records.now in
    let short : file_length files f.0 ≤ 32768 = files_short files c.requires.1 f.0 within in
    search rules

pub returns : goal.returns
unfolding placed_once placed_below blocks_with
returns c = c.every_file.ensures (placed_once (records_of c.args.store.now)) (λ f b some within post. search rules)
