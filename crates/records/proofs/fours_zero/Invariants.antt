-- Every number passed is zero.
use Prim.Native.Nat.{◌*◌, ◌≤◌}
use mathlib.Core.Path.{◌≡◌}
use mathlib.Core.Bool.{true}
use Rattle.records.specs.Numbers.{zeros}
use Rattle.records.proofs.fours_zero.Given as goal

abbrev pub invariant-loop-k : goal.invariant-loop-k
invariant-loop-k l = (l.k ≤ l.n) × (zeros l.table l.at (4 * l.k) ≡ true)
