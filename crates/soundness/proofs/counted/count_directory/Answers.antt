use Prim.Native.Nat.{ℕ, ◌+◌, ◌≤◌, ◌<◌}
use mathlib.Core.Path.{◌≡◌, sym, ◌∙◌}
use mathlib.Core.Logic.{◌≢◌, ⊎_elim}
use mathlib.Core.List.{List}
use native.Mathlib.Omega.{arith}
use borrow.Author.Tests.{eq-eqb, ne_eqb}
use lib.ListN.{get_or, set, length-set}
use lib.Seq.{get_or-set_same, get_or-set_other}
use Rattle.records.specs.Rows.{how_many}
use Rattle.records.specs.LoopLaws.{count_start, count_hit, count_miss, how_many-within}
use Rattle.records.specs.Tests.{same_or_not}
use Rattle.meaning.specs.Name.{entry_at}
use Rattle.soundness.specs.Rules.{names-at, Counted, Countable}
use Rattle.soundness.specs.Slots.{slot}
use borrow.Author.Rules.{rules}
use Rattle.soundness.proofs.counted.count_directory.Goals as goal

module _ (blocks starts : List ℕ) (n : ℕ) (old : List ℕ) (countable : Countable blocks starts n old) where
  none : Counted blocks starts 0 old old
  none = record { size = countable.size; each = λ f h. omega (arith, count_start (names-at blocks starts f)) }

  module _ (i k : ℕ) (h : i < n) (read : k ≡ (entry_at blocks (slot starts i)).file) (new : List ℕ) (so_far : Counted blocks starts i old new) where
    named : (entry_at blocks (slot starts i)).file ≡ k
    named = sym read

    number : k < 65
    number = omega (arith, named, countable.numbers i h)

    low : get_or new k 0 ≤ 133120
    low =
        omega (arith, so_far.each k (omega (arith, number)), countable.low k (omega (arith, number)), how_many-within (names-at blocks starts k) i, countable.within.few)

    one_more : Counted blocks starts (i + 1) old (set new k (get_or new k 0 + 1))
    one_more =
        record {
          size = length-set new k (get_or new k 0 + 1) ∙ so_far.size;
          each = λ f (b : f ≤ 64). ⊎_elim
              (λ (e : f ≡ k).
              let hit : how_many (i + 1) (names-at blocks starts f) ≡ how_many i (names-at blocks starts f) + 1 = count_hit (names-at blocks starts f) i (eq-eqb (entry_at blocks (slot starts i)).file f (named ∙ sym e)) in
              let now : get_or (set new k (get_or new k 0 + 1)) f 0 ≡ get_or new f 0 + 1 = rw e (get_or-set_same new k (get_or new k 0 + 1) 0 (omega (arith, number, so_far.size))) in
              omega (arith, so_far.each f b))
              (λ (d : f ≢ k).
              let miss : how_many (i + 1) (names-at blocks starts f) ≡ how_many i (names-at blocks starts f) = count_miss (names-at blocks starts f) i (ne_eqb (entry_at blocks (slot starts i)).file f (λ e. d (sym e ∙ named))) in
              let now : get_or (set new k (get_or new k 0 + 1)) f 0 ≡ get_or new f 0 = get_or-set_other new k f (get_or new k 0 + 1) 0 d in
              omega (arith, so_far.each f b))
              (same_or_not f k);
        }

  all : (i : ℕ) (new : List ℕ) → i ≤ n → n ≤ i → Counted blocks starts i old new → Counted blocks starts n old new
  all i new l h so_far = let e : i ≡ n = omega arith in rw e at so_far

pub loop-i-init : goal.loop-i-init
loop-i-init c = (search rules, none _ _ _ _ c.requires)

pub bounds-counts-k : goal.bounds-counts-k
bounds-counts-k c =
    number _ _ _ _ c.requires _ _ (search rules) c.file-k.ensures _ c.loop-i.invariant.1

pub overflow_add-counts : goal.overflow_add-counts
overflow_add-counts c =
    let h : get_or c.loop-i.counts c.file-k.result.0 0 ≤ 133120 =
    low _ _ _ _ c.requires _ _ (search rules) c.file-k.ensures _ c.loop-i.invariant.1 in
    omega arith

pub bounds-counts-k-in-loop-i : goal.bounds-counts-k-in-loop-i
bounds-counts-k-in-loop-i c =
    number _ _ _ _ c.requires _ _ (search rules) c.file-k.ensures _ c.loop-i.invariant.1

pub loop-i-preserved : goal.loop-i-preserved
loop-i-preserved c =
    (search rules, one_more _ _ _ _ c.requires _ _ (search rules) c.file-k.ensures _ c.loop-i.invariant.1)

pub returns : goal.returns
returns c = all _ _ _ _ c.requires _ _ (search rules) (search rules) c.loop-i.invariant.1
