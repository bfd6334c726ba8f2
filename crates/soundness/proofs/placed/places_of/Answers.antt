use Rattle.std.proofs.Common.{sym, ◌∙◌, ap}
use Rattle.meaning.specs.File.{needed}
use Rattle.tables.specs.StoreLaws.{file-length}
use Rattle.soundness.proofs.placed.places_of.Goals as goal

pub returns : goal.returns
returns c =
    let long = file-length c.args.file_records.now c.args.f.0 c.requires.0 in
    c.places.ensures ∙ ap needed (c.file_record.ensures.length ∙ sym long)
