-- The counts are those of the files passed; the measure is how many files are left.
use Prim.Native.Nat.{◌/◌, ◌≤◌}
use lib.ListN.{length}
use Rattle.soundness.specs.Slots.{directories_of}
use Rattle.soundness.specs.Counts.{Counts}
use Rattle.soundness.proofs.counted.count_all.Given as goal

abbrev pub invariant-loop-r : goal.invariant-loop-r
invariant-loop-r l = (l.r ≤ length l.store.file_records.now / 8) × Counts (directories_of l.store) l.r l.counts
