-- At each turn all that was read is served, and all that it prints is written.
use Rattle.std.proofs.Common.{◌≡◌}
use Rattle.filestore_text.specs.Parts.{tables_in}
use Rattle.filestore_text.proofs.Pieces.{SoFar}
use Rattle.filestore_text.proofs.serve_input.Given as goal

abbrev pub invariant-loop : goal.invariant-loop
invariant-loop g l =
    record {
      empty : l.out.at ≡ 0;
      so_far : SoFar l.initial.line (tables_in l.initial.store) (g.R.Read.remaining l.initial.input) (g.W.Write.contents l.initial.output)
          l.line (tables_in l.store) (g.R.Read.remaining l.input) (g.W.Write.contents l.output);
    }
