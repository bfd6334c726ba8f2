use Rattle.std.proofs.Common.{rules, eqb}
use Rattle.tables.specs.Searches.{blocks_with}
use Rattle.soundness.specs.Rules.{placed_below}
use Rattle.soundness.proofs.placed.placed_below.Goals as goal

pub returns : goal.returns
unfolding placed_below
returns c = c.every.ensures (λ i. eqb (blocks_with c.args.block_records.now c.args.f.0 i) 1) (λ i b h post. search rules)
