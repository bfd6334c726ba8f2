use Rattle.std.proofs.Common.{rules, arith, ◌+◌, ◌%◌, ◌≤◌, length}
use Rattle.blocks.specs.InBlock.{moving-held, moving_fits, moving-laid}
use Rattle.blocks.proofs.Parts.{zeros_in}
use Rattle.blocks.proofs.blank_in_block.Goals as goal

pub place_start-requires : goal.place_start-requires
place_start-requires c = search moving-held

pub overflow_add-start-2 : goal.overflow_add-start-2
overflow_add-start-2 c =
    let fits : c.place_start.result + c.args.k % 512 + c.in_block-m.result ≤ length c.args.blocks.now = search moving_fits in search rules

pub slice_bounds-fill-end : goal.slice_bounds-fill-end
slice_bounds-fill-end c = search moving_fits

pub returns : goal.returns
returns c =
    let fits : c.place_start.result + c.args.k % 512 + c.in_block-m.result ≤ length c.args.blocks.now = search moving_fits in
    moving-laid _ _ _ _ _ _ _ c.requires _ c.place_start.ensures _ c.in_block-m.ensures _
    (zeros_in _ _ _ _ _ fits (omega (arith, c.in_block-m.ensures)) (c.fill.ensures.after (λ y e. search rules)))
