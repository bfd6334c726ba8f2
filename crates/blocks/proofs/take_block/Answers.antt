-- The block's owner and place, as they were read, decide.
use Rattle.std.proofs.Common.{ℕ, ◌≡◌, List, Bool, true, false, eqb, ◌&&◌, ◌∙◌}
use Rattle.records.specs.Rows.{tally}
use Rattle.records.specs.Numbers.{with_record}
use Rattle.meaning.specs.Tables.{owner, place, holds, is_free, block_record}
use Rattle.blocks.specs.Places.{taken_at, Took}
use Rattle.blocks.proofs.take_block.Goals as goal

module _ (records : List ℕ) (f i b o p : ℕ) (is-owner : o ≡ owner records b) (is-place : p ≡ place records b) (t : Bool) (is : t ≡ eqb o 0 && eqb p 0) where
  free : t ≡ is_free records b
  unfolding holds
  free = is ∙ rw (is-owner, is-place)

  a_free_block : t ≡ true → (next : List ℕ) → next ≡ with_record 4 records b (block_record f i) → Took records next f i b (tally t)
  unfolding taken_at
  a_free_block e next left = record { count = rw free; left = left ∙ rw (← free, e) }

  another_block : t ≡ false → Took records records f i b (tally t)
  unfolding taken_at
  another_block e = record { count = rw free; left = rw (← free, e) }

pub returns-then-is_free : goal.returns-then-is_free
returns-then-is_free c = search a_free_block

pub returns-else-is_free : goal.returns-else-is_free
returns-else-is_free c = search another_block
