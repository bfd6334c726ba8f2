use Rattle.std.proofs.Common.{rules, refl, ◌-◌}
use Rattle.blocks.proofs.Parts.{none_there, some_there, laid_none, laid_from, laid_part, rest_of}
use Rattle.blocks.proofs.lay_run.Goals as goal

pub returns-then-is_empty : goal.returns-then-is_empty
returns-then-is_empty c = laid_none _ _ _ _ _ _ refl (none_there _ _ c.is_empty.ensures c.if-is_empty.true)

pub loop-i-init : goal.loop-i-init
loop-i-init c = (refl, laid_from _ _ _ _ _ _ refl)

pub loop-i-preserved : goal.loop-i-preserved
loop-i-preserved c =
    let k = c.max-k.result in
    let some = some_there _ _ c.is_empty.ensures c.if-is_empty.false in
    (search rules, laid_part _ _ _ _ _ _ refl _ _ c.loop-i.invariant.1 k c.max-k.ensures (search rules) (search rules) some _ _ c.lay_in_block.ensures (rest_of c.args.«data».now k (k - c.args.at)))
