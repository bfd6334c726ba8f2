-- The form of k syllables and the pieces from here on is the form of the name.
use Prim.Native.Nat.{◌≤◌}
use mathlib.Core.Path.{◌≡◌}
use lib.ListN.{length, drop}
use Rattle.meaning.specs.Name.{split, syllables}
use Rattle.names.specs.Syllables.{form_of, form_with}
use Rattle.names.proofs.count_syllables.Given as goal

abbrev pub invariant-loop-k : goal.invariant-loop-k
invariant-loop-k l = (l.k ≤ 8) × ((l.at ≤ length l.name) × (form_of (syllables l.name) ≡ form_with l.k (split (drop l.at l.name))))
