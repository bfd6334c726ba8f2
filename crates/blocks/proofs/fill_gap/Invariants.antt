-- The zeros before place i are laid.
use Rattle.std.proofs.Common.{◌≡◌, ◌-◌, ◌*◌, length, take}
use Rattle.meaning.specs.File.{zero_bytes}
use Rattle.blocks.specs.Runs.{laid_run}
use Rattle.blocks.proofs.fill_gap.Given as goal

abbrev pub invariant-loop-i : goal.invariant-loop-i
invariant-loop-i l =
    (length l.blocks ≡ length l.initial.blocks) × (l.blocks ≡ laid_run l.initial.blocks l.block_records l.f.0 l.at (take (512 * l.i - l.at) (zero_bytes l.n)))
