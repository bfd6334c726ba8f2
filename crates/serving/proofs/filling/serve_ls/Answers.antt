-- 14 bytes are printed for each name.
use Rattle.std.proofs.Common.{refl}
use Rattle.serving.specs.Sizes.{ls_sized}
use Rattle.serving.proofs.Filled.{within, head, filled}
use Rattle.serving.proofs.filling.serve_ls.Goals as goal

pub slice_bounds-buffer-end : goal.slice_bounds-buffer-end
slice_bounds-buffer-end c = rw c.unwrap_or.ensures (within _ _ _ _ _ _ c.ls-answer.ensures refl 14 (ls_sized _ _ _) _ refl)

pub slice_bounds-print_counted-end : goal.slice_bounds-print_counted-end
slice_bounds-print_counted-end c = rw c.unwrap_or.ensures (head _ _ _ _ _ _ c.ls-answer.ensures refl 14 (ls_sized _ _ _) _ refl)

pub returns : goal.returns
returns c = filled _ _ _ _ _ _ c.ls-answer.ensures refl 14 (ls_sized _ _ _) _ refl _ _ _ _ (rw c.unwrap_or.ensures at c.print_counted.ensures)
