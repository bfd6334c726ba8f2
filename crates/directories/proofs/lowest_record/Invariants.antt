-- What is left from the record that comes next gives what the whole gives, for each test that the closure computes.
use Rattle.std.proofs.Common.{◌≡◌, ◌+◌, ◌*◌, ◌≤◌, ℕ, Bool, length, min}
use Rattle.directories.specs.FindLaws.{LeftFrom}
use Rattle.directories.proofs.lowest_record.Given as goal

abbrev pub invariant-loop-k : goal.invariant-loop-k
invariant-loop-k g l =
    (l.k ≤ 64)
    × ((at : ℕ) → at + 16 ≤ length l.store.blocks.now → goal.F-pre g l.test at)
    × ((p : ℕ → Bool) → ((at : ℕ) (b : Bool) → at + 16 ≤ length l.store.blocks.now → goal.F-post g l.test at b → b ≡ p at)
    → LeftFrom p l.store.block_records.now l.d.0 l.count (min (32 * l.k) l.count))

abbrev pub invariant-loop-j : goal.invariant-loop-j
invariant-loop-j g l =
    (l.j ≤ l.j-end)
    × ((at : ℕ) → at + 16 ≤ length l.store.blocks.now → goal.F-pre g l.test at)
    × ((p : ℕ → Bool) → ((at : ℕ) (b : Bool) → at + 16 ≤ length l.store.blocks.now → goal.F-post g l.test at b → b ≡ p at)
    → LeftFrom p l.store.block_records.now l.d.0 l.count (32 * l.k + l.j))
