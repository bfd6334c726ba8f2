use Rattle.std.proofs.Common.{◌≡◌, ◌+◌, ◌<◌, ap, rules, arith}
use Rattle.records.specs.Rows.{tally}
use Rattle.blocks.proofs.TakeSteps.{take_start, take_next, take_enough, take-end}
use Rattle.blocks.proofs.take_blocks.Goals.{then-take_block, else-take_block}
use Rattle.blocks.proofs.take_blocks.Goals as goal

pub loop-b-init : goal.loop-b-init
loop-b-init c = (search take_start, omega arith)

pub returns-then-done-n : goal.returns-then-done-n
returns-then-done-n c = take_enough _ _ _ _ _ _ _ c.loop-b.invariant.0 (omega arith)

pub loop-b-preserved : goal.loop-b-preserved
loop-b-preserved c =
    let more : c.loop-b.done < c.args.n = omega (arith, c.if-done-n.false) in
    let counted : c.if-take_block.done ≡ c.loop-b.done + tally c.take_block.result =
    elim c.if-take_block.branch [ then-take_block w ↦ omega (arith, ap tally w.if-take_block.true, w.done-is) | else-take_block w ↦ omega (arith, ap tally w.if-take_block.false, w.done-is) ] in (
      take_next _ _ _ _ _ _ _ c.loop-b.invariant.0 (search rules) (omega arith) (omega arith) more (omega arith) _ _ c.take_block.ensures _ counted,
      elim c.if-take_block.branch [ then-take_block w ↦ omega (arith, w.done-is) | else-take_block w ↦ omega (arith, w.done-is) ],
    )

pub returns : goal.returns
returns c = take-end _ _ _ _ _ _ _ c.loop-b.invariant.0 c.requires.whole_records (omega arith) (omega arith)
