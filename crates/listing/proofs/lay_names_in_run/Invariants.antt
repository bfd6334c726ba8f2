-- The names of the records passed are laid.
use Rattle.std.proofs.Common.{◌≡◌, ◌+◌, ◌≤◌, length}
use Rattle.std.proofs.lemmas.List.Edits.{sets}
use Rattle.listing.specs.Names.{run_names}
use Rattle.listing.proofs.lay_names_in_run.Given as goal

abbrev pub invariant-loop-j : goal.invariant-loop-j
invariant-loop-j l =
    (l.j ≤ l.n) × (length l.buffer ≡ length l.fn.buffer)
    × (l.end ≡ l.to + length (run_names l.blocks l.at l.j)) × (l.buffer ≡ sets l.fn.buffer l.to (run_names l.blocks l.at l.j))
