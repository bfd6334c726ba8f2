use Prim.Native.Nat.{ℕ, ◌*◌, ◌<◌}
use mathlib.Core.Path.{◌≡◌, ap, ◌∙◌}
use mathlib.Core.List.{List}
use native.Mathlib.Omega.{arith}
use Rattle.records.specs.LoopLaws.{every_start}
use Rattle.soundness.specs.RuleLoops.{rule-passed, rule_failed, rules-passed}
use Rattle.soundness.specs.Rules.{new_at}
use Rattle.soundness.specs.NewNames.{names_are}
use Rattle.soundness.specs.Slots.{slot, slot-few}
use Rattle.soundness.specs.Chains.{chain_at}
use Rattle.soundness.specs.ChainLaws.{chain_below, lasts_start, links_start, last_of, lasts_next, links_next}
use borrow.Author.Rules.{rules}
use mathlib.Core.Bool.{not}
use Rattle.soundness.proofs.distinct.Names.all_chained.Goals as goal

low : (blocks starts : List ℕ) (i h : ℕ) → h ≡ chain_at blocks starts i → h < 1024
unfolding chain_at
low blocks starts i h is = omega (arith, chain_below blocks starts blocks (16 * slot starts i))

pub loop-i-init : goal.loop-i-init
loop-i-init c = (search rules, search every_start, lasts_start _ _, links_start _ _)

pub offset_bounds-lasts-h : goal.offset_bounds-lasts-h
offset_bounds-lasts-h c = omega (arith, low _ _ _ _ c.chain-h.ensures)

pub bounds-lasts-h : goal.bounds-lasts-h
bounds-lasts-h c = low _ _ _ _ c.chain-h.ensures

pub is_new_in_chain-requires : goal.is_new_in_chain-requires
is_new_in_chain-requires c =
    record {
      i_in_bounds = search rules;
      linked = c.loop-i.invariant.3;
      last_of_chain = last_of _ _ _ _ c.chain-h.ensures (low _ _ _ _ c.chain-h.ensures) _ c.loop-i.invariant.2;
    }

pub returns-then-not-is_new_in_chain : goal.returns-then-not-is_new_in_chain
returns-then-not-is_new_in_chain c =
    rule_failed (new_at _ _) _ _ c.is_new_in_chain.ensures _ (search rules) (ap not c.if-not-is_new_in_chain.true) ∙ names_are _ _ _

pub bounds-links-i : goal.bounds-links-i
bounds-links-i c = slot-few _ _ _ c.args.self.now.records.now.within _ (search rules)

pub overflow_cast-lasts : goal.overflow_cast-lasts
overflow_cast-lasts c = omega (arith, c.args.self.now.records.now.within.few)

pub offset_bounds-lasts-h-in-loop-i : goal.offset_bounds-lasts-h-in-loop-i
offset_bounds-lasts-h-in-loop-i c = omega (arith, low _ _ _ _ c.chain-h.ensures)

pub bounds-lasts-h-in-loop-i : goal.bounds-lasts-h-in-loop-i
bounds-lasts-h-in-loop-i c = low _ _ _ _ c.chain-h.ensures

pub loop-i-preserved : goal.loop-i-preserved
loop-i-preserved c =
    let of = c.chain-h.ensures in
    let below = low _ _ _ _ c.chain-h.ensures in (
      search rules,
      rule-passed (new_at _ _) _ _ c.is_new_in_chain.ensures c.loop-i.invariant.1 (ap not c.if-not-is_new_in_chain.false),
      lasts_next _ _ _ _ of below _ c.loop-i.invariant.2,
      links_next _ _ _ _ of below _ c.loop-i.invariant.2 (slot-few _ _ _ c.args.self.now.records.now.within _ (search rules)) _ c.loop-i.invariant.3,
    )

pub returns : goal.returns
returns c = rules-passed (new_at _ _) _ _ (search rules) (search rules) c.loop-i.invariant.1 ∙ names_are _ _ _
