-- A name that is there has its own record.
use Rattle.std.proofs.Common.{◌∙◌}
use Rattle.lookup.specs.LookLaws.{lies_here}
use Rattle.naming.specs.LocateLaws.{here, own_recorded, place_or_end}
use Rattle.naming.proofs.own_record.Goals as goal

pub record_count-count-requires : goal.record_count-count-requires
record_count-count-requires c = here _ _ _ _ _ _ c.requires

pub find_named-requires : goal.find_named-requires
find_named-requires c = lies_here _ _ _ _ c.requires.shelf (here _ _ _ _ _ _ c.requires) _ c.record_count-count.ensures

pub returns : goal.returns
returns c =
    own_recorded _ _ _ _ _ _ c.record_count-count.ensures c.requires _
    (c.unwrap_or.ensures ∙ place_or_end _ _ c.record_count-count.result _ _ (rw c.last_syllable.ensures at c.find_named.ensures))
