-- As many bytes are printed as were read.
use Rattle.std.proofs.Common.{refl, arith}
use Rattle.serving.specs.Sizes.{read_sized}
use Rattle.serving.proofs.Filled.{head, filled, of_count}
use Rattle.serving.proofs.filling.serve_read.Goals as goal

pub slice_bounds-print_counted-end : goal.slice_bounds-print_counted-end
slice_bounds-print_counted-end c = head _ _ _ _ _ _ c.read-answer.ensures refl 1 (read_sized _ _ _) _ (omega (arith, c.unwrap_or-n.ensures))

pub returns : goal.returns
returns c =
    let s = filled _ _ _ _ _ _ c.read-answer.ensures refl 1 (read_sized _ _ _) _ (omega (arith, c.unwrap_or-n.ensures)) _ _ _ _ c.print_counted.ensures in
    of_count _ _ _ c.requires.brief _ _ _ _ _ _ s
