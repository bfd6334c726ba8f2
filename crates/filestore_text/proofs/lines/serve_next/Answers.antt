-- The piece ends within the line, or the line is served.
use Rattle.std.proofs.Common.{sym}
use Rattle.filestore_text.specs.PartLaws.{part-open, part_line}
use Rattle.filestore_text.proofs.lines.serve_next.Goals as goal

pub returns-in_err-rest : goal.returns-in_err-rest
returns-in_err-rest c = rw c.from_residual.ensures (part-open _ _ _ _ _ _ c.in_err-rest.ensures.appends (sym c.in_err-rest.ensures.rest))

pub returns : goal.returns
returns c = part_line _ _ _ _ _ _ c.in_ok-rest.ensures.appends _ (sym c.in_ok-rest.ensures.rest) _ c.begin.ensures _ _ _ c.serve_line-out.ensures
