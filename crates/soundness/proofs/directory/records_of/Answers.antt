use Rattle.soundness.specs.Slots.{within_placed}
use Rattle.soundness.proofs.directory.records_of.Goals as goal

pub invariant_of-result : goal.invariant_of-result
invariant_of-result c =
    let p = c.requires in
    record { within = rw p.size_is (within_placed _ _ _ p.placed _ p.f_in_bounds.1 _ p.found) }
