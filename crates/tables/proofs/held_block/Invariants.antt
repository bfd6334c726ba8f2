-- The block that is looked for is not passed, and it is one of the table's; the measure is how many blocks are left.
use Prim.Native.Nat.{◌-◌, ◌≤◌, ◌<◌}
use Rattle.records.specs.Rows.{lowest}
use Rattle.meaning.specs.Tables.{block_count}
use Rattle.tables.specs.SearchLaws.{is_number}
use Rattle.tables.proofs.held_block.Given as goal

abbrev pub invariant-loop-b : goal.invariant-loop-b
invariant-loop-b l =
    let p = is_number l.records l.wanted in
    (l.b ≤ lowest (block_count l.records) p) × (lowest (block_count l.records) p < block_count l.records)

abbrev pub decreases-loop-b : goal.decreases-loop-b
decreases-loop-b l = block_count l.records - l.b
