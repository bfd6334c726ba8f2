use Prim.Native.Nat.{ℕ, ◌+◌, ◌≤◌, ◌<◌}
use mathlib.Core.Path.{◌≡◌, refl, ◌∙◌}
use mathlib.Core.Logic.{◌≢◌, ⊎_elim}
use mathlib.Core.List.{List}
use native.Mathlib.Omega.{arith}
use lib.ListN.{length, set}
use lib.Seq.{get_or-set_same, get_or-set_other}
use Rattle.records.specs.Tests.{same_or_not}
use Rattle.meaning.specs.Tables.{block_count, block_of}
use Rattle.soundness.specs.Slots.{Findable, Starts}
use borrow.Author.Rules.{rules}
use Rattle.soundness.proofs.directory.find_blocks.Goals as goal

there : (records : List ℕ) (f n : ℕ) → Findable records f n → (p : ℕ) → p < n → (block_count records ≤ 65536) × (block_of records f p < block_count records)
there records f n can p h = (omega (arith, can.few-blocks), can.there p h)

none : (records : List ℕ) (f : ℕ) (starts : List ℕ) → Starts records f 0 starts
none records f starts = record { each = λ p h. absurd (omega arith) }

one_more : (records : List ℕ) (f p : ℕ) (starts : List ℕ) → p < length starts → Starts records f p starts →
    (b : ℕ) → b ≡ block_of records f p → Starts records f (p + 1) (set starts p b)
one_more records f p starts h found b e =
    record {
      each = λ q (l : q < p + 1). ⊎_elim
          (λ (s : q ≡ p). rw s (get_or-set_same starts p b 0 h ∙ e))
          (λ (d : q ≢ p). get_or-set_other starts p q b 0 d ∙ found.each q (omega arith))
          (same_or_not q p);
    }

all : (records : List ℕ) (f n p : ℕ) (starts : List ℕ) → p ≤ n → n ≤ p → Starts records f p starts → Starts records f n starts
all records f n p starts l h found = let e : p ≡ n = omega arith in rw e at found

pub loop-p-init : goal.loop-p-init
loop-p-init c = (search rules, refl, none _ _ _)

pub held_block-requires : goal.held_block-requires
held_block-requires c = there _ _ _ c.requires _ (search rules)

pub loop-p-preserved : goal.loop-p-preserved
loop-p-preserved c = (search rules, search rules, one_more _ _ _ _ (search rules) c.loop-p.invariant.2 _ c.held_block.ensures)

pub returns : goal.returns
returns c = search (all, rules)
