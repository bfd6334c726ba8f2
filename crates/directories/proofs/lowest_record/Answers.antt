-- At each record: the test that the closure computes is that of the record's place.
use Rattle.std.proofs.Common.{rules, arith}
use Rattle.directories.specs.FindLaws.{left_start, left-none, left-found, left-passed}
use Rattle.directories.proofs.lowest_record.Goals as goal

pub loop-k-init : goal.loop-k-init
loop-k-init g c = (search rules, c.requires.testable, λ p agrees. left_start p _ _ _ _ (omega arith))

pub returns-then-test : goal.returns-then-test
returns-then-test g c p agrees =
    let same = agrees _ _ (search rules) c.test.ensures in
    left-found p _ _ _ _ _ c.place_start-at.ensures (search rules) _ same _ (search rules) (c.loop-j.invariant.2 p agrees) c.if-test.true

pub loop-j-preserved : goal.loop-j-preserved
loop-j-preserved g c = (
  search rules,
  c.requires.testable,
  λ p agrees.
      let same = agrees _ _ (search rules) c.test.ensures in
      left-passed p _ _ _ _ _ c.place_start-at.ensures (search rules) _ same _ (search rules) (c.loop-j.invariant.2 p agrees) c.if-test.false,
)

pub returns : goal.returns
returns g c p agrees = left-none p _ _ _ _ (search rules) (c.loop-k.invariant.2 p agrees)
