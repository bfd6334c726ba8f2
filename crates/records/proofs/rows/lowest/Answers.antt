use Rattle.std.proofs.Common.{rules, arith, ◌≡◌, ◌<◌, ℕ, Bool, Some, None, sym, ◌∙◌}
use borrow.Author.Tests.{lt-ltb, le-ltb}
use Rattle.records.specs.Rows.{lowest, lowest_below, found_below}
use Rattle.records.specs.LoopLaws.{search_start, search_found, search_passed, search_none}
use Rattle.records.proofs.rows.lowest.Goals as goal

some : (p : ℕ → Bool) (n i : ℕ) → i < n → i ≡ lowest n p → Some i ≡ lowest_below n p
unfolding lowest_below found_below
some p n i h e = rw (← e, lt-ltb i n h)

none : (p : ℕ → Bool) (n : ℕ) → n ≡ lowest n p → None ≡ lowest_below n p
unfolding lowest_below found_below
none p n e = rw (← e, le-ltb n n (omega arith))

pub loop-i-init : goal.loop-i-init
loop-i-init g c = (search rules, c.requires, λ p agrees. search_start p _)

pub returns-then-test : goal.returns-then-test
returns-then-test g c p agrees =
    let h = c.loop-i-test.true in
    some p _ _ h (search_found p _ _ (c.loop-i.invariant.2 p agrees) h (sym (agrees _ _ h c.test.ensures) ∙ c.if-test.true))

pub loop-i-preserved : goal.loop-i-preserved
loop-i-preserved g c = (
  search rules,
  c.requires,
  λ p agrees.
      let h = c.loop-i-test.true in
      search_passed p _ _ (c.loop-i.invariant.2 p agrees) h (sym (agrees _ _ h c.test.ensures) ∙ c.if-test.false),
)

pub returns : goal.returns
returns g c p agrees =
    let done : c.loop-i.i ≡ c.args.n = search rules in
    none p _ (search_none p _ _ (c.loop-i.invariant.2 p agrees) c.loop-i.invariant.0 (omega arith))
