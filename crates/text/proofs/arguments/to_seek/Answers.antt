use Rattle.std.proofs.Common.{◌∙◌}
use Rattle.text.specs.Words.{to_seek}
use Rattle.text.proofs.arguments.to_seek.Goals as goal

pub returns-in_err-c : goal.returns-in_err-c
unfolding to_seek
returns-in_err-c c = rw c.from_residual.ensures (c.in_err-c.ensures _)

pub returns-in_err-mode : goal.returns-in_err-mode
unfolding to_seek
returns-in_err-mode c = rw c.from_residual-in_err-mode.ensures (c.in_err-mode.ensures _ ∙ c.in_ok-c.ensures _)

pub returns-in_err-number : goal.returns-in_err-number
unfolding to_seek
returns-in_err-number c =
    rw c.from_residual-in_err-number.ensures (c.in_err-number.ensures _ ∙ c.in_ok-mode.ensures _ ∙ c.in_ok-c.ensures _)

pub returns : goal.returns
unfolding to_seek
returns c = c.in_ok-number.ensures _ ∙ c.in_ok-mode.ensures _ ∙ c.in_ok-c.ensures _
