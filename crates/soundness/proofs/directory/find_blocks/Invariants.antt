-- The blocks of the places passed are in the row; the measure is how many places are left.
use Prim.Native.Nat.{◌≤◌}
use mathlib.Core.Path.{◌≡◌}
use lib.ListN.{length}
use Rattle.soundness.specs.Slots.{Starts}
use Rattle.soundness.proofs.directory.find_blocks.Given as goal

abbrev pub invariant-loop-p : goal.invariant-loop-p
invariant-loop-p l = (l.p ≤ l.n) × (length l.starts ≡ 64) × Starts l.block_records l.f.0 l.p l.starts
