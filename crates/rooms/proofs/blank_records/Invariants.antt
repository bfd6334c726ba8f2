-- The bytes passed are zero, and no byte is added.
use Prim.Native.Nat.{ℕ, ◌-◌, ◌<◌}
use mathlib.Core.Path.{◌≡◌}
use mathlib.Core.List.{List}
use lib.ListN.{length, get_or}
use Rattle.rooms.proofs.blank_records.Given as goal

-- the first i bytes are zero
abbrev pub Blank : List ℕ → ℕ → Type 0
Blank l i = (j : ℕ) → j < i → get_or l j 0 ≡ 0

abbrev pub invariant-loop-i : goal.invariant-loop-i
invariant-loop-i l = (length l.records ≡ length l.initial.records) × Blank l.records l.i
