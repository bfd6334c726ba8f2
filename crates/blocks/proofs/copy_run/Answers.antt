use Rattle.std.proofs.Common.{◌≡◌, ◌+◌, ◌-◌, refl, length, arith}
use Rattle.blocks.proofs.Parts.{put_at}
use Rattle.blocks.proofs.copy_run.Goals as goal

pub returns : goal.returns
returns c =
    let its_length : c.args.at + length c.args.run.now - c.args.at ≡ length c.args.run.now = omega arith in
    rw (c.copy_from_slice.ensures.after, its_length) (put_at c.args.to.now c.args.run.now c.args.at _ c.requires refl)
