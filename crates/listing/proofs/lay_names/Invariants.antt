-- The names of the runs passed are laid.
use Rattle.std.proofs.Common.{◌≤◌}
use Rattle.listing.specs.RunLaws.{Laid, passed}
use Rattle.listing.proofs.lay_names.Given as goal

abbrev pub invariant-loop-k : goal.invariant-loop-k
invariant-loop-k l =
    let blocks = l.store.blocks.now in
    let records = l.store.block_records.now in
    (l.k ≤ 64) × Laid blocks records l.d.0 l.fn.buffer l.buffer l.end (passed blocks records l.d.0 l.count l.k)
