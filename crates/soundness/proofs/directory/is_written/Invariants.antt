-- Every byte passed may stand in a name; the measure is how many bytes are left.
use Prim.Native.Nat.{◌≤◌}
use mathlib.Core.Path.{◌≡◌}
use mathlib.Core.Bool.{true}
use Rattle.records.specs.Rows.{every}
use Rattle.soundness.specs.RecordRules.{lettered}
use Rattle.soundness.proofs.directory.is_written.Given as goal

abbrev pub invariant-loop-i : goal.invariant-loop-i
invariant-loop-i l = (l.i ≤ 14) × (every l.i (lettered l.table l.at) ≡ true)
