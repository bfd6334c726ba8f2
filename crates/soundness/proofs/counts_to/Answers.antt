use Prim.Native.Nat.{ℕ, ◌≤◌, ◌<◌}
use mathlib.Core.Path.{◌≡◌}
use borrow.Author.Tests.{le-leb, lt-leb}
use lib.Dec.{leb}
use Rattle.soundness.specs.Rules.{counts_to}
use Rattle.soundness.proofs.counts_to.Goals as goal

module _ (n most : ℕ) where
  some : 1 ≤ n → leb n most ≡ counts_to n most
  unfolding counts_to
  some h = rw (le-leb 1 n h)

  none : n < 1 → leb 1 n ≡ counts_to n most
  unfolding counts_to
  none h = rw (lt-leb 1 n h)

pub returns-then-n-ge1 : goal.returns-then-n-ge1
returns-then-n-ge1 c = search some

pub returns-else-n-ge1 : goal.returns-else-n-ge1
returns-else-n-ge1 c = search none
