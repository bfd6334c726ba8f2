use Rattle.tables.specs.Searches.{blocks_with, free_block_count}
use Rattle.tables.proofs.count_free_blocks.Goals as goal

-- a free block is place 0 of file 0
pub returns : goal.returns
unfolding free_block_count blocks_with
returns c = c.count_blocks.ensures
