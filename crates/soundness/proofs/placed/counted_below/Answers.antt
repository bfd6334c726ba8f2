use Rattle.std.proofs.Common.{rules, ◌+◌, ◌*◌, eqb, get_or}
use Rattle.soundness.specs.PlaceCounts.{counted_below}
use Rattle.soundness.proofs.placed.counted_below.Goals as goal

pub returns : goal.returns
unfolding counted_below
returns c = c.every.ensures (λ i. eqb (get_or c.args.counts.now (64 * c.args.f.0 + i) 0) 1) (λ i b h post. search rules)
