use Prim.Native.Nat.{ℕ, ◌+◌, ◌-◌, ◌≤◌}
use mathlib.Core.Path.{◌≡◌}
use mathlib.Core.List.{List}
use native.Mathlib.Omega.{arith}
use Rattle.meaning.specs.Store.{Store}
use Rattle.soundness.specs.Counts.{Counts}
use borrow.Author.Rules.{rules}
use Rattle.soundness.proofs.counted.count_all.Goals as goal

all : (s : Store) (n r : ℕ) (counts : List ℕ) → r ≤ n → n ≤ r → Counts s r counts → Counts s n counts
all s n r counts l h so_far = let e : r ≡ n = omega arith in rw e at so_far

-- file r + 1 comes after the first r
before : (s : Store) (r : ℕ) (counts : List ℕ) → Counts s r counts → Counts s (r + 1 - 1) counts
before s r counts so_far = let e : r + 1 - 1 ≡ r = omega arith in rw e so_far

pub loop-r-init : goal.loop-r-init
loop-r-init c = (search rules, c.requires.fresh)

pub add_names-requires : goal.add_names-requires
add_names-requires c =
    record { placed = c.requires.placed; f_in_bounds = search rules; directories_kept = c.requires.directories_kept; counted = before _ _ _ c.loop-r.invariant.1 }

pub loop-r-preserved : goal.loop-r-preserved
loop-r-preserved c = (search rules, c.add_names.ensures)

pub returns : goal.returns
returns c = all _ _ _ _ (search rules) (search rules) c.loop-r.invariant.1
