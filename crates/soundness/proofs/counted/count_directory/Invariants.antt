-- Each count is what it was and the names that the records passed give; the measure is how many records are left.
use Prim.Native.Nat.{◌≤◌}
use Rattle.soundness.specs.Rules.{Counted}
use Rattle.soundness.proofs.counted.count_directory.Given as goal

abbrev pub invariant-loop-i : goal.invariant-loop-i
invariant-loop-i l = (l.i ≤ l.records.count) × Counted l.records.blocks.now l.records.starts.now l.i l.initial.counts l.counts
