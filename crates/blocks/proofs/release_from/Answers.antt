use Prim.Native.Nat.{ℕ, ◌≤◌}
use mathlib.Core.Path.{◌≡◌, refl, ◌∙◌}
use mathlib.Core.List.{List}
use native.Mathlib.Omega.{arith}
use borrow.Author.Rules.{rules}
use Rattle.meaning.specs.Tables.{block_count, released}
use Rattle.blocks.specs.Places.{WholeRecords}
use Rattle.blocks.proofs.ReleaseSteps.{released_to, release_start, release_next, release_end}
use Rattle.blocks.proofs.release_from.Goals as goal

all_of_them : (records : List ℕ) (f n b : ℕ) (now : List ℕ) → WholeRecords records → now ≡ released_to records f n b → block_count records ≤ b → now ≡ released records f n
all_of_them records f n b now w e h = e ∙ release_end records f n b w.whole h

pub loop-b-init : goal.loop-b-init
loop-b-init c = (refl, search release_start)

pub overflow_cast-b : goal.overflow_cast-b
overflow_cast-b c = omega (arith, c.requires.few)

pub loop-b-preserved : goal.loop-b-preserved
loop-b-preserved c = (search rules, search release_next)

pub shape_of-block_records : goal.shape_of-block_records
shape_of-block_records c = c.loop-b.invariant.0

pub returns : goal.returns
returns c = search all_of_them
