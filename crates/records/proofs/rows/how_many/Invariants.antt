-- Of the indices passed, so many meet each test that the closure computes.
use Rattle.std.proofs.Common.{◌≡◌, ◌≤◌, ◌<◌, ℕ, Bool}
use Rattle.records.specs.Rows.{how_many}
use Rattle.records.proofs.rows.how_many.Given as goal

abbrev pub invariant-loop-i : goal.invariant-loop-i
invariant-loop-i g l =
    (l.i ≤ l.n)
    × (l.found ≤ l.i)
    × ((i : ℕ) → i < l.n → goal.F-pre g l.test i)
    × ((p : ℕ → Bool) → ((i : ℕ) (b : Bool) → i < l.n → goal.F-post g l.test i b → b ≡ p i) → l.found ≡ how_many l.i p)
