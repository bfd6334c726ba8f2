-- Piece by piece; the input's end ends the last line.
use Rattle.std.proofs.Common.{refl, rules}
use Rattle.filestore_text.proofs.Pieces.{nothing_yet, onward, ok_of, cut_in_piece, given_in_piece, at_end, given_whole, all_moved}
use Rattle.filestore_text.proofs.serve_input.Goals as goal

pub loop-init : goal.loop-init
loop-init g c = record { empty = refl; so_far = nothing_yet _ _ _ _ }

pub loop-preserved : goal.loop-preserved
loop-preserved g c =
    let ok = ok_of c.serve_piece.result c.if-is_err.ensures.value in
    record {
      empty = rw ok.1 at c.serve_piece.ensures.empty;
      so_far = onward _ _ _ _ _ _ _ _ c.loop.invariant.so_far _ _ _ _ _ _ c.serve_piece.ensures.serves ok.0 ok.1 _ c.in-Ok.ensures.bytes.0;
    }

pub returns-then-is_err-clause-serves : goal.returns-then-is_err-clause-serves
returns-then-is_err-clause-serves g c =
    cut_in_piece _ _ _ _ _ _ _ _ c.loop.invariant.so_far c.fresh-line.ensures c.requires _ _ _ _ _ _ c.serve_piece.ensures.serves

pub returns-then-is_err-clause-read : goal.returns-then-is_err-clause-read
returns-then-is_err-clause-read g c =
    given_in_piece _ _ _ _ _ _ _ _ c.loop.invariant.so_far c.fresh-line.ensures c.requires _ _ _ _ _ _ c.serve_piece.ensures.serves _ c.in-Ok.ensures.bytes.0

pub returns-in-Ok-serve_end-clause-serves : goal.returns-in-Ok-serve_end-clause-serves
returns-in-Ok-serve_end-clause-serves g c = at_end _ _ _ _ _ _ _ _ c.loop.invariant.so_far c.fresh-line.ensures c.requires _ _ _ c.serve_end.ensures.writes

pub returns-in-Err-clause-serves : goal.returns-in-Err-clause-serves
returns-in-Err-clause-serves g c = at_end _ _ _ _ _ _ _ _ c.loop.invariant.so_far c.fresh-line.ensures c.requires _ _ _ c.serve_end.ensures.writes

pub returns-in-Ok-serve_end-clause-read : goal.returns-in-Ok-serve_end-clause-read
returns-in-Ok-serve_end-clause-read g c =
    given_whole _ _ _ _ _ _ _ _ c.loop.invariant.so_far c.fresh-line.ensures c.requires _ _ _ c.serve_end.ensures.writes _
    (rw c.if-read-eq0.true at c.in-Ok.ensures.bytes.0) (c.in-Ok.ensures.bytes.1 c.if-read-eq0.true (search rules))

pub returns-in-Err-clause-read : goal.returns-in-Err-clause-read
returns-in-Err-clause-read g c =
    given_whole _ _ _ _ _ _ _ _ c.loop.invariant.so_far c.fresh-line.ensures c.requires _ _ _ c.serve_end.ensures.writes _
    (rw c.if-read-eq0.true at c.in-Ok.ensures.bytes.0) (c.in-Ok.ensures.bytes.1 c.if-read-eq0.true (search rules))

pub returns-in-Ok-serve_end-clause-moves : goal.returns-in-Ok-serve_end-clause-moves
returns-in-Ok-serve_end-clause-moves g c =
    all_moved _ _ _ _ _ _ _ _ c.loop.invariant.so_far c.fresh-line.ensures c.requires _ _ _ c.serve_end.ensures.writes _ c.in-Ok-serve_end.is _
    (rw c.if-read-eq0.true at c.in-Ok.ensures.bytes.0) (c.in-Ok.ensures.bytes.1 c.if-read-eq0.true (search rules))
