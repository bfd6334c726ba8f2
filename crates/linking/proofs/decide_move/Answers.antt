-- Link decides; the old name's record is where its directory has it.
use Rattle.std.proofs.lemmas.Result.{err_from_is_err_and}
use Rattle.linking.specs.MoveDecision.{no_move, own_place, movable}
use Rattle.linking.proofs.decide_move.Goals as goal

pub returns-in_err-plan : goal.returns-in_err-plan
returns-in_err-plan c =
    let p = err_from_is_err_and c.from_residual.result c.from_residual.ensures.1 in
    rw (p.1, p.2) (no_move _ _ _ _ _ _ _ c.in_err-plan.ensures)

pub own_record-i-requires : goal.own_record-i-requires
own_record-i-requires c = own_place _ _ _ _ _ _ _ c.in_ok-plan.ensures

pub returns : goal.returns
returns c = movable _ _ _ _ _ _ _ c.in_ok-plan.ensures _ c.own_record-i.ensures
