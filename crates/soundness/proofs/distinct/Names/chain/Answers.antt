use Rattle.soundness.specs.Chains.{chain_from, chain_at}
use Rattle.soundness.proofs.distinct.Names.chain.Goals as goal

pub returns : goal.returns
unfolding chain_at chain_from
returns c = rw (c.four_at-a.ensures, c.four_at-b.ensures, c.four_at-c.ensures, c.two_at-d.ensures, c.start-at.ensures.at)
