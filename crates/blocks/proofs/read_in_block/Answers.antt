use Rattle.std.proofs.Common.{rules, arith, ◌≡◌, ◌+◌, ◌-◌, ◌%◌, ◌≤◌, length}
use Rattle.blocks.specs.InBlock.{moving-held, moving_fits}
use Rattle.blocks.specs.ReadLaws.{moving-read}
use Rattle.blocks.proofs.read_in_block.Goals as goal

pub place_start-requires : goal.place_start-requires
place_start-requires c = search moving-held

pub overflow_add-start-2 : goal.overflow_add-start-2
overflow_add-start-2 c =
    let fits : c.place_start.result + c.args.k % 512 + c.in_block-m.result ≤ length c.args.store.now.blocks.now = search moving_fits in search rules

pub slice_bounds-copy_run-end : goal.slice_bounds-copy_run-end
slice_bounds-copy_run-end c = search moving_fits

pub returns : goal.returns
returns c =
    let its_length : c.place_start.result + c.args.k % 512 + c.in_block-m.result - (c.place_start.result + c.args.k % 512) ≡ c.in_block-m.result = omega arith in
    moving-read _ _ _ _ _ _ _ c.requires _ c.place_start.ensures _ c.in_block-m.ensures _ (rw its_length at c.copy_run.ensures)
