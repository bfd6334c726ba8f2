use Rattle.std.proofs.Common.{rules, arith, ◌∙◌}
use Rattle.listing.specs.RunLaws.{laid_start, laid_all, places-room, places-end-next, places-laid-next}
use Rattle.listing.proofs.lay_names.Goals as goal

pub loop-k-init : goal.loop-k-init
loop-k-init c = (search rules, laid_start _ _ _ _ _ (omega arith))

pub lay_names_in_run-end-requires-clause-room_in_bounds : goal.lay_names_in_run-end-requires-clause-room_in_bounds
lay_names_in_run-end-requires-clause-room_in_bounds c =
    let laid = c.loop-k.invariant.1 in
    places-room _ _ _ _ _ _ c.place_start-at.ensures (search rules) _ c.run_size-n.ensures _ _ _ laid.0 laid.1 laid.2 c.requires.names_fit

pub loop-k-preserved : goal.loop-k-preserved
loop-k-preserved c =
    let laid = c.loop-k.invariant.1 in (
      search rules,
      (
        c.lay_names_in_run-end.auto.buffer ∙ laid.0,
        places-end-next _ _ _ _ _ _ c.place_start-at.ensures (search rules) _ c.run_size-n.ensures _ _ _ laid.0 laid.1 laid.2 _ c.lay_names_in_run-end.ensures.value,
        places-laid-next _ _ _ _ _ _ c.place_start-at.ensures (search rules) _ c.run_size-n.ensures _ _ _ laid.0 laid.1 laid.2 _
            c.lay_names_in_run-end.ensures.buffer_after,
      ),
    )

pub returns : goal.returns
returns c = laid_all _ _ _ _ _ _ _ _ c.loop-k.invariant.1 (search rules) c.requires.names_fit
