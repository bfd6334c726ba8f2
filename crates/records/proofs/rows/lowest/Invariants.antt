-- What is left of the search gives what the whole gives, for each test that the closure computes.
use Rattle.std.proofs.Common.{◌≡◌, ◌-◌, ◌≤◌, ◌<◌, ℕ, Bool}
use Rattle.records.specs.Rows.{lowest, lowest_from}
use Rattle.records.proofs.rows.lowest.Given as goal

abbrev pub invariant-loop-i : goal.invariant-loop-i
invariant-loop-i g l =
    (l.i ≤ l.n)
    × ((i : ℕ) → i < l.n → goal.F-pre g l.test i)
    × ((p : ℕ → Bool) → ((i : ℕ) (b : Bool) → i < l.n → goal.F-post g l.test i b → b ≡ p i) → lowest l.n p ≡ lowest_from l.i (l.n - l.i) p)
