use Rattle.std.proofs.Common.{rules, arith, refl, ◌-◌}
use Rattle.std.proofs.lemmas.List.{length-replicate}
use Rattle.blocks.proofs.Parts.{laid_none, laid_from, laid_part, zeros_of}
use Rattle.blocks.proofs.fill_gap.Goals as goal

pub returns-then-n-eq0 : goal.returns-then-n-eq0
returns-then-n-eq0 c = laid_none _ _ _ _ _ _ (length-replicate _ _) c.if-n-eq0.true

pub loop-i-init : goal.loop-i-init
loop-i-init c = (refl, laid_from _ _ _ _ _ _ (length-replicate _ _))

pub loop-i-preserved : goal.loop-i-preserved
loop-i-preserved c = (search rules, laid_part _ _ _ _ _ _ (length-replicate _ _) _ _ c.loop-i.invariant.1 _ c.max-k.ensures (search rules) (search rules) (omega arith) _ _ c.blank_in_block.ensures (zeros_of c.args.n c.max-k.result (c.max-k.result - c.args.at) _ (omega (arith, c.max-k.ensures))))
