-- So many of the records passed meet each test that the closure computes.
use Rattle.std.proofs.Common.{◌≡◌, ◌+◌, ◌*◌, ◌≤◌, ℕ, Bool, length, min}
use Rattle.directories.specs.FindLaws.{Passing}
use Rattle.directories.proofs.count_records.Given as goal

abbrev pub invariant-loop-k : goal.invariant-loop-k
invariant-loop-k g l =
    (l.k ≤ 64) × (l.passing ≤ 32 * l.k)
    × ((at : ℕ) → at + 16 ≤ length l.store.blocks.now → goal.F-pre g l.test at)
    × ((p : ℕ → Bool) → ((at : ℕ) (b : Bool) → at + 16 ≤ length l.store.blocks.now → goal.F-post g l.test at b → b ≡ p at)
    → Passing p l.store.block_records.now l.d.0 (min (32 * l.k) l.count) l.passing)

abbrev pub invariant-loop-j : goal.invariant-loop-j
invariant-loop-j g l =
    (l.j ≤ l.j-end) × (l.passing ≤ 32 * l.k + l.j)
    × ((at : ℕ) → at + 16 ≤ length l.store.blocks.now → goal.F-pre g l.test at)
    × ((p : ℕ → Bool) → ((at : ℕ) (b : Bool) → at + 16 ≤ length l.store.blocks.now → goal.F-post g l.test at b → b ≡ p at)
    → Passing p l.store.block_records.now l.d.0 (32 * l.k + l.j) l.passing)
