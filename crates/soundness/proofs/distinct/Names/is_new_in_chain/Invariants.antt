-- The records of the chain passed have other names than record i; the measure is what is left, the next one's number and 1.
use Rattle.soundness.specs.ChainLaws.{Looked}
use Rattle.soundness.proofs.distinct.Names.is_new_in_chain.Given as goal

abbrev pub invariant-loop-next : goal.invariant-loop-next
invariant-loop-next l = Looked l.self.records.now.blocks.now l.self.records.now.starts.now l.i l.next

abbrev pub decreases-loop-next : goal.decreases-loop-next
decreases-loop-next l = l.next
