-- The walk stands at the start or behind a slash; the measure is what is left of the name.
use Prim.Native.Nat.{ℕ, ◌-◌, ◌≤◌, ◌<◌}
use mathlib.Core.Path.{◌≡◌}
use mathlib.Core.Bool.{true}
use mathlib.Core.List.{List}
use lib.ListN.{length}
use Rattle.paths.specs.Taking.{is_slash}
use Rattle.names.proofs.last_syllable.Given as goal

abbrev pub Behind : List ℕ → ℕ → Type 0
Behind name at = 0 < at → is_slash name (at - 1) ≡ true

abbrev pub invariant-loop-taken : goal.invariant-loop-taken
invariant-loop-taken l = (l.at ≤ length l.name) × Behind l.name l.at

abbrev pub decreases-loop-taken : goal.decreases-loop-taken
decreases-loop-taken l = length l.name - l.at
