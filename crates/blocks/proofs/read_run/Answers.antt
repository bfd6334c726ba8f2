use Rattle.std.proofs.Common.{rules, refl}
use Rattle.blocks.proofs.Parts.{none_there, some_there, read_none, read_from, read_to, read_part}
use Rattle.blocks.proofs.read_run.Goals as goal

pub returns-then-is_empty : goal.returns-then-is_empty
returns-then-is_empty c = read_none _ _ _ _ _ (none_there _ _ c.is_empty.ensures c.if-is_empty.true)

pub loop-i-init : goal.loop-i-init
loop-i-init c = (refl, read_from _ _ _ _ _)

pub loop-i-preserved : goal.loop-i-preserved
loop-i-preserved c =
    let some = some_there _ _ c.is_empty.ensures c.if-is_empty.false in
    (search rules, read_part _ _ _ _ _ _ _ c.loop-i.invariant.1 c.loop-i.invariant.0 _ c.max-k.ensures (search rules) (search rules) some _ c.read_in_block.ensures)

pub returns : goal.returns
returns c = read_to _ _ _ _ _ _ _ c.loop-i.invariant.1 (search rules)
