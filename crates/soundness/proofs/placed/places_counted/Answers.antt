use Prim.Native.Nat.{ℕ, ◌≤◌}
use mathlib.Core.Path.{◌≡◌}
use mathlib.Core.List.{List}
use native.Mathlib.Omega.{arith}
use Rattle.std.proofs.Common.{◌∙◌}
use Rattle.soundness.specs.PlaceCounts.{PlaceCounts, places_start, counted_placed}
use borrow.Author.Rules.{rules}
use Rattle.soundness.proofs.placed.places_counted.Goals as goal

all : (records : List ℕ) (n b : ℕ) (counts : List ℕ) → b ≤ n → n ≤ b → PlaceCounts records b counts → PlaceCounts records n counts
all records n b counts l h so_far = let e : b ≡ n = omega arith in rw e at so_far

pub loop-b-init : goal.loop-b-init
loop-b-init c = (search rules, places_start _)

pub count_block-requires : goal.count_block-requires
count_block-requires c = record { placeable = c.requires.placeable; b_in_bounds = search rules; places_counted = c.loop-b.invariant.1 }

pub loop-b-preserved : goal.loop-b-preserved
loop-b-preserved c = (search rules, c.count_block.ensures)

pub returns : goal.returns
returns c =
    c.all_counted.ensures
    ∙ counted_placed _ _ _ (all _ _ _ _ (search rules) (search rules) c.loop-b.invariant.1) c.requires.files_sound.0 c.requires.files_sound.1
