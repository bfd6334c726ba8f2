-- At each record: the test that the closure computes is that of the record's place.
use Rattle.std.proofs.Common.{rules, arith}
use Rattle.directories.specs.FindLaws.{passing_start, passing_all, passing-one, passing-other}
use Rattle.directories.proofs.count_records.Goals.{then-test, else-test}
use Rattle.directories.proofs.count_records.Goals as goal

pub loop-k-init : goal.loop-k-init
loop-k-init g c = (search rules, search rules, c.requires.testable, λ p agrees. passing_start p _ _ _ (omega arith))

pub loop-j-preserved : goal.loop-j-preserved
loop-j-preserved g c = (
  search rules,
  elim c.if-test.branch [ then-test w ↦ omega arith | else-test w ↦ omega arith ],
  c.requires.testable,
  λ p agrees.
      let so_far = c.loop-j.invariant.3 p agrees in
      let same = agrees _ _ (search rules) c.test.ensures in
      elim c.if-test.branch [
        | then-test w ↦ passing-one p _ _ _ _ _ c.place_start-at.ensures (search rules) _ same _ so_far _ w.if-test.true w.passing-is
        | else-test w ↦ passing-other p _ _ _ _ _ c.place_start-at.ensures (search rules) _ same _ so_far _ w.if-test.false w.passing-is
      ],
)

pub returns : goal.returns
returns g c p agrees = passing_all p _ _ _ _ _ (search rules) (c.loop-k.invariant.3 p agrees)
