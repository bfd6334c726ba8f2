-- Every index passed meets each test that the closure computes.
use Rattle.std.proofs.Common.{◌≡◌, ◌≤◌, ◌<◌, ℕ, Bool, true}
use Rattle.records.specs.Rows.{every}
use Rattle.records.proofs.rows.every.Given as goal

abbrev pub invariant-loop-i : goal.invariant-loop-i
invariant-loop-i g l =
    (l.i ≤ l.n)
    × ((i : ℕ) → i < l.n → goal.F-pre g l.test i)
    × ((p : ℕ → Bool) → ((i : ℕ) (b : Bool) → i < l.n → goal.F-post g l.test i b → b ≡ p i) → every l.i p ≡ true)
