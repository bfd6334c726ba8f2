use Rattle.std.proofs.Common.{rules}
use Rattle.soundness.specs.Rules.{new_at, names_at}
use Rattle.soundness.proofs.distinct.Names.all_compared.Goals as goal

pub returns : goal.returns
unfolding names_at
returns c = c.every.ensures (new_at c.args.self.now.records.now.blocks.now c.args.self.now.records.now.starts.now) (λ i b h post. search rules)
