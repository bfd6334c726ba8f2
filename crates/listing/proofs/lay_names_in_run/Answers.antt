use Rattle.std.proofs.Common.{rules, refl}
use Rattle.listing.specs.RunLaws.{run-end_start, run-laid_start, run_room, run-end-next, run-laid-next, run-end_all, run-laid_all}
use Rattle.listing.proofs.lay_names_in_run.Goals as goal

pub loop-j-init : goal.loop-j-init
loop-j-init c = (search rules, refl, search run-end_start, search run-laid_start)

pub lay_name-end-requires-clause-room_in_bounds : goal.lay_name-end-requires-clause-room_in_bounds
lay_name-end-requires-clause-room_in_bounds c = search run_room

pub loop-j-preserved : goal.loop-j-preserved
loop-j-preserved c = (search rules, search rules, search run-end-next, search run-laid-next)

pub returns-clause-value : goal.returns-clause-value
returns-clause-value c =
    let inv = c.loop-j.invariant in
    run-end_all _ _ _ _ _ _ _ inv.1 inv.2 inv.3 _ (search rules) (search rules)

pub returns-clause-buffer_after : goal.returns-clause-buffer_after
returns-clause-buffer_after c =
    let inv = c.loop-j.invariant in
    run-laid_all _ _ _ _ _ _ _ inv.1 inv.2 inv.3 _ (search rules) (search rules)
