use Rattle.std.proofs.Common.{rules, ◌≡◌, sym, ◌∙◌}
use Rattle.records.specs.LoopLaws.{every_start, every-step, every_fail}
use Rattle.records.proofs.rows.every.Goals as goal

pub loop-i-init : goal.loop-i-init
loop-i-init g c = (search rules, c.requires, λ p agrees. every_start p)

pub returns-then-not-test : goal.returns-then-not-test
returns-then-not-test g c p agrees =
    sym (every_fail p c.loop-i.i c.args.n c.loop-i-test.true (sym (agrees c.loop-i.i c.test.result c.loop-i-test.true c.test.ensures) ∙ c.if-not-test.true))

pub loop-i-preserved : goal.loop-i-preserved
loop-i-preserved g c =
    (search rules, c.requires, λ p agrees. every-step p c.loop-i.i (c.loop-i.invariant.2 p agrees) (sym (agrees c.loop-i.i c.test.result c.loop-i-test.true c.test.ensures) ∙ c.if-not-test.false))

pub returns : goal.returns
returns g c p agrees =
    let done : c.loop-i.i ≡ c.args.n = search rules in
    rw done at (sym (c.loop-i.invariant.2 p agrees))
