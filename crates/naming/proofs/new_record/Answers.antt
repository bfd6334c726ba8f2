-- A new name goes to the first blank record, or to the end.
use Rattle.std.proofs.Common.{◌∙◌}
use Rattle.lookup.specs.LookLaws.{lies_here}
use Rattle.naming.specs.LocateLaws.{here, new_recorded, place_or_end}
use Rattle.naming.proofs.new_record.Goals as goal

pub record_count-count-requires : goal.record_count-count-requires
record_count-count-requires c = here _ _ _ _ _ _ c.requires

pub find_blank-requires : goal.find_blank-requires
find_blank-requires c = lies_here _ _ _ _ c.requires.shelf (here _ _ _ _ _ _ c.requires) _ c.record_count-count.ensures

pub returns : goal.returns
returns c =
    new_recorded _ _ _ _ _ _ c.record_count-count.ensures c.requires _
    (c.unwrap_or.ensures ∙ place_or_end _ _ c.record_count-count.result _ _ c.find_blank.ensures)
