-- The bytes before place i are read.
use Rattle.std.proofs.Common.{◌≡◌, ◌-◌, ◌*◌, length, min}
use Rattle.std.proofs.lemmas.List.Edits.{sets}
use Rattle.blocks.specs.Runs.{run_of}
use Rattle.blocks.proofs.read_run.Given as goal

abbrev pub invariant-loop-i : goal.invariant-loop-i
invariant-loop-i l =
    (length l.out ≡ length l.initial.out) × (l.out ≡ sets l.initial.out 0 (run_of l.store.blocks.now l.store.block_records.now l.f.0 l.at (min (512 * l.i - l.at) (length l.initial.out))))
