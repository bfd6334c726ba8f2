-- Every name passed is new, and the rows have the chains of the records passed; the measure is how many records are left.
use Prim.Native.Nat.{◌≤◌}
use mathlib.Core.Path.{◌≡◌}
use mathlib.Core.Bool.{true}
use Rattle.records.specs.Rows.{every}
use Rattle.soundness.specs.Rules.{new_at}
use Rattle.soundness.specs.Chains.{Lasts, Links}
use Rattle.soundness.proofs.distinct.Names.all_chained.Given as goal

abbrev pub invariant-loop-i : goal.invariant-loop-i
invariant-loop-i l =
    let r = l.self.records.now in
    (l.i ≤ r.count) × (every l.i (new_at r.blocks.now r.starts.now) ≡ true) × Lasts r.blocks.now r.starts.now l.i l.lasts × Links r.blocks.now r.starts.now l.i l.links
