-- Each line is a step; where a write fails the piece is served up to there.
use Rattle.std.proofs.Common.{◌≡◌, refl, ℕ, ◌+◌, ◌≤◌, arith}
use Rattle.std.proofs.lemmas.Result.{err_from_is_err_and}
use Rattle.filestore_text.proofs.Moving.{nothing_waits, nothing_yet, step, writes_on, cut, whole_piece}
use Rattle.filestore_text.proofs.serve_piece.Goals as goal

room_at_first : (at : ℕ) → at ≡ 0 → at + 4200 ≤ 65536
room_at_first at e = omega arith

pub loop-rest-init : goal.loop-rest-init
loop-rest-init g c = record { room = room_at_first _ c.requires; so_far = nothing_yet _ _ _ _ _ (nothing_waits _ _ c.requires) }

pub loop-rest-preserved : goal.loop-rest-preserved
loop-rest-preserved g c =
    let served = step _ _ _ _ _ _ _ _ _ c.loop-rest.invariant.so_far _ _ _ _ c.in-Some.ensures in
    record { room = c.in_ok-make_room.ensures.room; so_far = writes_on _ _ _ _ _ _ _ _ _ served _ _ c.in_ok-make_room.ensures.writes }

pub returns-in_err-make_room-clause-serves : goal.returns-in_err-make_room-clause-serves
returns-in_err-make_room-clause-serves g c =
    let p = err_from_is_err_and c.from_residual.result c.from_residual.ensures.1 in
    rw p.1 (cut _ _ _ _ _ _ _ _ _ (step _ _ _ _ _ _ _ _ _ c.loop-rest.invariant.so_far _ _ _ _ c.in-Some.ensures) _ _)

pub returns-clause-serves : goal.returns-clause-serves
returns-clause-serves g c =
    whole_piece _ _ _ _ _ _ _ _ _ (step _ _ _ _ _ _ _ _ _ c.loop-rest.invariant.so_far _ _ _ _ c.in_default.ensures) refl _ _ c.write_out.ensures.written
