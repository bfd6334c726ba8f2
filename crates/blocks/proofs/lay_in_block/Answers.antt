use Rattle.std.proofs.Common.{arith, ◌+◌, ◌%◌, ◌≤◌, length, length-take}
use Rattle.blocks.specs.InBlock.{place_fits, moving-held, moving_fits, moving-laid}
use Rattle.blocks.proofs.lay_in_block.Goals as goal

pub overflow_cast-k : goal.overflow_cast-k
overflow_cast-k c = search place_fits

pub place_start-requires : goal.place_start-requires
place_start-requires c = search moving-held

pub overflow_add-at : goal.overflow_add-at
overflow_add-at c =
    let fits : c.place_start.result + c.args.k % 512 + c.in_block-m.result ≤ length c.args.blocks.now = search moving_fits in omega arith

pub copy_run-requires : goal.copy_run-requires
copy_run-requires c =
    let fits : c.place_start.result + c.args.k % 512 + c.in_block-m.result ≤ length c.args.blocks.now = search moving_fits in
    omega (arith, length-take c.in_block-m.result c.args.bytes.now)

pub returns : goal.returns
returns c = moving-laid _ _ _ _ _ _ _ c.requires _ c.place_start.ensures _ c.in_block-m.ensures _ c.copy_run.ensures
