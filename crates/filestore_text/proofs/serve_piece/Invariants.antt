-- At each turn the piece is served up to what is left of it, what is printed is written or waits, and the output has room for a line.
use Rattle.std.proofs.Common.{◌+◌, ◌≤◌, length}
use Rattle.serving.specs.Serves.{line_room}
use Rattle.filestore_text.specs.Parts.{tables_in, waiting}
use Rattle.filestore_text.proofs.Moving.{SoFar}
use Rattle.filestore_text.proofs.serve_piece.Given as goal

abbrev pub invariant-loop-rest : goal.invariant-loop-rest
invariant-loop-rest g l =
    record {
      room : l.out.at + line_room ≤ 65536;
      so_far : SoFar l.initial.piece.now l.initial.line (tables_in l.initial.store) (g.W.Write.contents l.initial.output) l.piece.now l.line (tables_in l.store) (waiting l.out) (g.W.Write.contents l.output);
    }

abbrev pub decreases-loop-rest : goal.decreases-loop-rest
decreases-loop-rest g l = length l.piece.now
