-- The block's owner and place, as they were read, decide.
use Rattle.std.proofs.Common.{ℕ, ◌≡◌, ◌≤◌, ◌<◌, ◌⊎◌, List, Bool, true, false, eqb, ◌∙◌, ⊎_elim}
use borrow.Author.Tests.{le-leb, lt-leb}
use Rattle.records.specs.Numbers.{with_record}
use Rattle.meaning.specs.Tables.{owner, place, block_record}
use Rattle.blocks.specs.Places.{released_at}
use Rattle.blocks.proofs.release_block.Goals as goal

module _ (records : List ℕ) (f n b o p : ℕ) (is-owner : o ≡ owner records b) (is-place : p ≡ place records b) (t : Bool) (is : t ≡ eqb o f) where
  its_later_place : t ≡ true → n ≤ p → (next : List ℕ) → next ≡ with_record 4 records b (block_record 0 0) → next ≡ released_at records f n b
  unfolding released_at
  its_later_place e h next left = left ∙ rw (← is-owner, ← is-place, ← is, e, le-leb n p h)

  another_place : ((t ≡ true) × (p < n)) ⊎ (t ≡ false) → records ≡ released_at records f n b
  unfolding released_at
  another_place = ⊎_elim (λ e. rw (← is-owner, ← is-place, ← is, e.0, lt-leb n p e.1)) (λ e. rw (← is-owner, ← is, e))

pub returns-then-n-record : goal.returns-then-n-record
returns-then-n-record c = search its_later_place

pub returns-else-eq : goal.returns-else-eq
returns-else-eq c = search another_place
