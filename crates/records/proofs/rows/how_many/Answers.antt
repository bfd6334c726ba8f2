use Rattle.std.proofs.Common.{rules, arith, ◌≡◌, sym, ◌∙◌}
use Rattle.records.specs.LoopLaws.{count_start, count_hit, count_miss}
use Rattle.records.proofs.rows.how_many.Goals.{then-test, else-test}
use Rattle.records.proofs.rows.how_many.Goals as goal

pub loop-i-init : goal.loop-i-init
loop-i-init g c = (search rules, search rules, c.requires, λ p agrees. sym (count_start p))

pub loop-i-preserved : goal.loop-i-preserved
loop-i-preserved g c = (
  search rules,
  elim c.if-test.branch [ then-test w ↦ omega arith | else-test w ↦ omega arith ],
  c.requires,
  λ p agrees.
      let so_far = c.loop-i.invariant.3 p agrees in
      let same : c.test.result ≡ p c.loop-i.i = agrees c.loop-i.i c.test.result c.loop-i-test.true c.test.ensures in
      elim c.if-test.branch [ then-test w ↦ omega (arith, count_hit p c.loop-i.i (sym same ∙ w.if-test.true), w.found-is) | else-test w ↦ omega (arith, count_miss p c.loop-i.i (sym same ∙ w.if-test.false), w.found-is) ],
)

pub returns : goal.returns
returns g c p agrees =
    let done : c.loop-i.i ≡ c.args.n = search rules in
    rw done at (c.loop-i.invariant.3 p agrees)
