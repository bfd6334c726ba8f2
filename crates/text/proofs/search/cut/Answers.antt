use Rattle.std.proofs.Common.{rules, arith, sym}
use Rattle.std.proofs.Math.Seq.{length-take-le}
use Rattle.text.proofs.CutLaws.{there, before-it, behind-it, all-before, nothing-behind}
use Rattle.text.proofs.search.cut.Goals as goal

pub slice_bounds-result-end : goal.slice_bounds-result-end
slice_bounds-result-end c =
    let h = there _ _ _ c.in-Some.ensures in
    sym (length-take-le c.in-Some.i c.args.bytes.now (omega arith))

pub overflow_add-result : goal.overflow_add-result
overflow_add-result c = let h = there _ _ _ c.in-Some.ensures in search rules

pub slice_bounds-result-count : goal.slice_bounds-result-count
slice_bounds-result-count c = let h = there _ _ _ c.in-Some.ensures in omega arith

pub slice_bounds-result-start : goal.slice_bounds-result-start
slice_bounds-result-start c = let h = there _ _ _ c.in-Some.ensures in search rules

pub returns-in-Some-clause-before : goal.returns-in-Some-clause-before
returns-in-Some-clause-before c = before-it _ _ _ c.in-Some.ensures

pub returns-in-Some-clause-behind : goal.returns-in-Some-clause-behind
returns-in-Some-clause-behind c = behind-it _ _ _ c.in-Some.ensures

pub returns-in-None-clause-before : goal.returns-in-None-clause-before
returns-in-None-clause-before c = all-before _ _ c.in-None.ensures

pub returns-in-None-clause-behind : goal.returns-in-None-clause-behind
returns-in-None-clause-behind c = nothing-behind _ _ c.in-None.ensures
