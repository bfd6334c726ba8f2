use Prim.Native.Nat.{ℕ, ◌+◌, ◌*◌, ◌≤◌, ◌<◌}
use mathlib.Core.Path.{◌≡◌, sym, ◌∙◌}
use mathlib.Core.List.{List}
use mathlib.Core.Bool.{Bool, true, false}
use native.Mathlib.Omega.{arith}
use borrow.Author.Tests.{eqb-true, eqb-false}
use lib.Dec.{eqb}
use lib.ListN.{get_or, set}
use Rattle.meaning.specs.Tables.{block_count}
use Rattle.tables.specs.Read.{BlockRead}
use Rattle.tables.specs.declared.BlockRecord.{BlockRecord}
use Rattle.soundness.specs.PlaceCounts.{Placeable, PlaceCounts, places_free, place_there, place_low, places-next}
use Rattle.soundness.proofs.placed.count_block.Goals as goal

module _ (records : List ℕ) (can : Placeable records) (b : ℕ) (h : b < block_count records) (counts : List ℕ) (so_far : PlaceCounts records b counts)
    (x : BlockRecord) (read : BlockRead records b x)
    (none : Bool) (z : none ≡ eqb x.owner.0 0) where
  free : none ≡ true → PlaceCounts records (b + 1) counts
  free e = places_free records b counts so_far (sym read.owner ∙ eqb-true x.owner.0 0 (sym z ∙ e))

  module _ (e : none ≡ false) (k : ℕ) (k-is : k ≡ 64 * x.owner.0 + x.place) where
    there : k < 4160
    there = rw k-is (place_there records can b h counts so_far x.owner.0 x.place read.owner read.place (eqb-false x.owner.0 0 (sym z ∙ e)))

    low : get_or counts k 0 ≤ 128
    low = rw k-is (place_low records can b h counts so_far x.owner.0 x.place read.owner read.place (eqb-false x.owner.0 0 (sym z ∙ e)))

    next : PlaceCounts records (b + 1) (set counts k (get_or counts k 0 + 1))
    next = rw k-is (places-next records can b h counts so_far x.owner.0 x.place read.owner read.place (eqb-false x.owner.0 0 (sym z ∙ e)))

pub returns-then-is_none : goal.returns-then-is_none
returns-then-is_none c = search free

pub overflow_add-counts : goal.overflow_add-counts
overflow_add-counts c = let h : get_or c.args.counts.now c.count_at-k.result 0 ≤ 128 = search low in omega arith

pub returns : goal.returns
returns c = search next
