use Prim.Native.Nat.{ℕ, ◌+◌, ◌-◌, ◌≤◌, ◌<◌}
use mathlib.Core.Path.{◌≡◌, refl, sym, ap, ◌∙◌}
use mathlib.Core.List.{List}
use mathlib.Core.Bool.{Bool, true, false, not}
use native.Mathlib.Omega.{arith}
use lib.ListN.{get_or}
use Rattle.records.specs.Rows.{every}
use Rattle.records.specs.LoopLaws.{every_fail}
use Rattle.meaning.specs.Name.{entry_at, is_blank, same}
use Rattle.soundness.specs.Rules.{new_at}
use Rattle.soundness.specs.NewNames.{other}
use Rattle.soundness.specs.Slots.{slot, Within, within_less}
use Rattle.soundness.specs.Chains.{Padded, chain_at, Last, Links}
use Rattle.soundness.specs.ChainLaws.{padded_less, Looked, looked_start, looked_next, looked_all}
use Rattle.soundness.specs.Together.{held_or, asked_or}
use borrow.Author.Rules.{rules}
use Rattle.soundness.proofs.distinct.Names.is_new_in_chain.Goals as goal

-- the chain as far as it is looked through
module _ (blocks starts : List ℕ) (n : ℕ) (w : Within blocks starts n) (padded : Padded blocks starts n) (i : ℕ) (h : i < n) where
  w_up_to : Within blocks starts (i + 1)
  w_up_to = within_less blocks starts n (i + 1) (omega arith) w

  padded_up_to : Padded blocks starts (i + 1)
  padded_up_to = padded_less blocks starts n (i + 1) (omega arith) padded

  start : (x : ℕ) → Last blocks starts (chain_at blocks starts i) i x → Looked blocks starts i x
  start x last = looked_start blocks starts i w_up_to padded_up_to x last

  all : (x : ℕ) → x ≤ 0 → Looked blocks starts i x → every i (other blocks starts i) ≡ true
  all x z looked = looked_all blocks starts i w_up_to padded_up_to x z looked

  module _ (x : ℕ) (looked : Looked blocks starts i x) (some : 0 < x) where
    before : x - 1 < i
    before = omega (arith, looked.low)

    inside : x - 1 < n
    inside = omega (arith, before)

    module _ (links : List ℕ) (linked : Links blocks starts i links) where
      few : x - 1 < 2048
      few = omega (arith, before, w.few)

      falls : get_or links (x - 1) 0 < x
      falls = omega (arith, (linked.each (x - 1) before).low)

      small : get_or links (x - 1) 0 < 2048
      small = omega (arith, falls, looked.low, w.few)

      next : other blocks starts i (x - 1) ≡ true → Looked blocks starts i (get_or links (x - 1) 0)
      next o = looked_next blocks starts i w_up_to padded_up_to links linked x (x - 1) (omega arith) looked o

-- record i is not blank: what the loop finds
module _ (blocks starts : List ℕ) (i : ℕ) (blank : Bool) (is : blank ≡ is_blank blocks (slot starts i)) (used : blank ≡ false) where
  no_other : every i (other blocks starts i) ≡ true → true ≡ new_at blocks starts i
  unfolding new_at other
  no_other all = asked_or _ _ blank _ is used (sym all)

  another : (j : ℕ) → j < i → (alike : Bool) → alike ≡ same (entry_at blocks (slot starts j)).name (entry_at blocks (slot starts i)).name → alike ≡ true →
      false ≡ new_at blocks starts i
  unfolding new_at other
  another j h alike test e = asked_or _ _ blank _ is used (sym (every_fail (other blocks starts i) j i h (ap not (sym test ∙ e))))

passed : (blocks starts : List ℕ) (i j : ℕ) (alike : Bool) → alike ≡ same (entry_at blocks (slot starts j)).name (entry_at blocks (slot starts i)).name → alike ≡ false →
    other blocks starts i j ≡ true
unfolding other
passed blocks starts i j alike test e = ap not (sym test ∙ e)

pub returns-then-is_blank : goal.returns-then-is_blank
unfolding new_at
returns-then-is_blank c = sym c.if-is_blank.true ∙ held_or _ _ _ _ c.is_blank.ensures c.if-is_blank.true refl

pub loop-next-init : goal.loop-next-init
loop-next-init c = start _ _ _ c.args.self.now.records.now.within c.args.self.now.padded _ c.requires.i_in_bounds _ c.requires.last_of_chain

pub are_same-requires : goal.are_same-requires
are_same-requires c =
    let r = c.args.self.now in
    (inside _ _ _ r.records.now.within r.padded _ c.requires.i_in_bounds _ c.loop-next.invariant (search rules), c.requires.i_in_bounds)

pub returns-then-are_same : goal.returns-then-are_same
returns-then-are_same c =
    let r = c.args.self.now in
    another _ _ _ _ c.is_blank.ensures c.if-is_blank.false
    _ (before _ _ _ r.records.now.within r.padded _ c.requires.i_in_bounds _ c.loop-next.invariant (search rules)) _ c.are_same.ensures c.if-are_same.true

pub bounds-links-k : goal.bounds-links-k
bounds-links-k c =
    let r = c.args.self.now in
    few _ _ _ r.records.now.within r.padded _ c.requires.i_in_bounds _ c.loop-next.invariant (search rules) _ c.requires.linked

pub overflow_cast-next-in-loop-next : goal.overflow_cast-next-in-loop-next
overflow_cast-next-in-loop-next c =
    let r = c.args.self.now in
    omega (arith, small _ _ _ r.records.now.within r.padded _ c.requires.i_in_bounds _ c.loop-next.invariant (search rules) _ c.requires.linked)

pub loop-next-smaller : goal.loop-next-smaller
loop-next-smaller c =
    let r = c.args.self.now in
    falls _ _ _ r.records.now.within r.padded _ c.requires.i_in_bounds _ c.loop-next.invariant (search rules) _ c.requires.linked

pub loop-next-preserved : goal.loop-next-preserved
loop-next-preserved c =
    let r = c.args.self.now in
    next _ _ _ r.records.now.within r.padded _ c.requires.i_in_bounds _ c.loop-next.invariant (search rules) _ c.requires.linked
    (passed _ _ _ _ _ c.are_same.ensures c.if-are_same.false)

pub returns : goal.returns
returns c =
    let r = c.args.self.now in
    no_other _ _ _ _ c.is_blank.ensures c.if-is_blank.false
    (all _ _ _ r.records.now.within r.padded _ c.requires.i_in_bounds _ (search rules) c.loop-next.invariant)
