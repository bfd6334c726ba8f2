-- What is left to take gives what the whole gives, and no block below b is free.
use Rattle.std.proofs.Common.{◌≤◌}
use Rattle.blocks.proofs.TakeSteps.{Taking}
use Rattle.blocks.proofs.take_blocks.Given as goal

abbrev pub invariant-loop-b : goal.invariant-loop-b
invariant-loop-b l = Taking l.initial.block_records l.f.0 l.i l.n l.block_records l.done l.b × (l.done ≤ l.n)
