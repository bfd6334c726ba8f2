-- The places of the file are let go in the first b records.
use Rattle.std.proofs.Common.{◌≡◌, length}
use Rattle.blocks.proofs.ReleaseSteps.{released_to}
use Rattle.blocks.proofs.release_from.Given as goal

abbrev pub invariant-loop-b : goal.invariant-loop-b
invariant-loop-b l =
    (length l.block_records ≡ length l.initial.block_records) × (l.block_records ≡ released_to l.initial.block_records l.f.0 l.n l.b)
