-- Every byte passed is zero, those of the fours too.
use Prim.Native.Nat.{ℕ, ◌+◌, ◌≤◌}
use mathlib.Core.Path.{◌≡◌}
use mathlib.Core.List.{List}
use mathlib.Core.Bool.{Bool, true}
use lib.Dec.{eqb}
use Rattle.records.specs.Rows.{every}
use Rattle.records.specs.Numbers.{one}
use Rattle.records.proofs.zeros_at.Given as goal

abbrev pub is_zero : List ℕ → ℕ → ℕ → Bool
is_zero l at i = eqb (one l (at + i)) 0

abbrev pub invariant-loop-i : goal.invariant-loop-i
invariant-loop-i l = (l.i ≤ l.n) × (every l.i (is_zero l.table l.at) ≡ true)
