use mathlib.Core.Path.{sym, ◌∙◌}
use native.Mathlib.Omega.{arith}
use Rattle.records.specs.LoopLaws.{sure_found, sure_ahead}
use Rattle.tables.specs.SearchLaws.{number_test, block_of-number}
use borrow.Author.Rules.{rules}
use Rattle.tables.proofs.held_block.Goals as goal

pub loop-b-init : goal.loop-b-init
loop-b-init c =
    let known = c.type_inv.records in
    let args = c.args in
    let is = block_of-number args.records.now (λ j. omega (arith, known j)) args.f.0 args.i _ (search rules) c.place_number-wanted.ensures in
    (search rules, rw is at c.requires.1)

pub loop-b-preserved : goal.loop-b-preserved
loop-b-preserved c =
    (sure_ahead _ _ _ c.loop-b.invariant.1 c.loop-b.invariant.0 _ _ (number_test _ _ _ _ c.four_at.ensures) c.loop-b-test.true, c.loop-b.invariant.1)

pub returns : goal.returns
returns c =
    let known = c.type_inv.records in
    sure_found _ _ _ c.loop-b.invariant.1 c.loop-b.invariant.0 _ _ (number_test _ _ _ _ c.four_at.ensures) c.loop-b-test.false
    ∙ sym (block_of-number _ (λ j. omega (arith, known j)) _ _ _ (search rules) c.place_number-wanted.ensures)
