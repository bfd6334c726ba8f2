-- The counts are those of the blocks passed.
use Prim.Native.Nat.{◌/◌, ◌≤◌}
use lib.ListN.{length}
use Rattle.soundness.specs.PlaceCounts.{PlaceCounts}
use Rattle.soundness.proofs.placed.places_counted.Given as goal

abbrev pub invariant-loop-b : goal.invariant-loop-b
invariant-loop-b l = (l.b ≤ length l.store.block_records.now / 4) × PlaceCounts l.store.block_records.now l.b l.counts
