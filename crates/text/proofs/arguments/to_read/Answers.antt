use Rattle.std.proofs.Common.{◌∙◌}
use Rattle.text.specs.Words.{to_read}
use Rattle.text.proofs.ReadLaws.{too_many, so_many}
use Rattle.text.proofs.arguments.to_read.Goals as goal

pub returns-in_err-c : goal.returns-in_err-c
unfolding to_read
returns-in_err-c c = rw c.from_residual.ensures (c.in_err-c.ensures _)

pub returns-in_err-count : goal.returns-in_err-count
unfolding to_read
returns-in_err-count c = rw c.from_residual-in_err-count.ensures (c.in_err-count.ensures _ ∙ c.in_ok-c.ensures _)

pub returns-then-count-gt-LARGEST_READ : goal.returns-then-count-gt-LARGEST_READ
unfolding to_read
returns-then-count-gt-LARGEST_READ c = too_many _ _ _ c.if-count-gt-LARGEST_READ.true ∙ c.in_ok-count.ensures _ ∙ c.in_ok-c.ensures _

pub returns-in_err-ended : goal.returns-in_err-ended
unfolding to_read
returns-in_err-ended c =
    rw c.from_residual-in_err-ended.ensures
    (so_many _ _ _ _ c.if-count-gt-LARGEST_READ.false (c.in_err-ended.ensures _) ∙ c.in_ok-count.ensures _ ∙ c.in_ok-c.ensures _)

pub returns : goal.returns
unfolding to_read
returns c = so_many _ _ _ _ c.if-count-gt-LARGEST_READ.false (c.in_ok-ended.ensures _) ∙ c.in_ok-count.ensures _ ∙ c.in_ok-c.ensures _
