-- Block records: which place of which file a block is.
use Rattle.std.specs.Prelude.{ℕ, ◌<◌, ◌≡◌, ◌≢◌, List, true, false, eqb}
use Rattle.std.proofs.Common.{◌∙◌}
use borrow.Author.Tests.{eq-eqb, ne_eqb, eqb-true}
use Rattle.records.specs.Rows.{how_many}
use Rattle.records.specs.Tests.{and_left, and_right, and_false}
use Rattle.records.specs.RowLaws.{lowest_hit, some_lowest, lowest_cong}
use Rattle.meaning.specs.Tables.{owner, place, block_count, holds, is_free, block_of}

-- block b is place i of file f exactly where its record says both
module _ (R : List ℕ) (f i b : ℕ) where
  pub its_place : owner R b ≡ f → place R b ≡ i → holds R f i b ≡ true
  unfolding holds
  its_place o p = rw (eq-eqb (owner R b) f o, eq-eqb (place R b) i p)

  pub holds-owner : holds R f i b ≡ true → owner R b ≡ f
  unfolding holds
  holds-owner e = eqb-true (owner R b) f (and_left (eqb (owner R b) f) (eqb (place R b) i) e)

  pub holds-place : holds R f i b ≡ true → place R b ≡ i
  unfolding holds
  holds-place e = eqb-true (place R b) i (and_right (eqb (owner R b) f) (eqb (place R b) i) e)

  pub other-owner : owner R b ≢ f → holds R f i b ≡ false
  unfolding holds
  other-owner d = rw (ne_eqb (owner R b) f d)

  pub other_place : place R b ≢ i → holds R f i b ≡ false
  unfolding holds
  other_place d = rw (ne_eqb (place R b) i d) (and_false (eqb (owner R b) f))

  -- of the blocks that f owns, those at place i
  pub holds_own : owner R b ≡ f → holds R f i b ≡ eqb (place R b) i
  unfolding holds
  holds_own o = rw (eq-eqb (owner R b) f o)

-- ---- the block that is place i of file f

module _ (R : List ℕ) (f i : ℕ) where
  module _ (there : block_of R f i < block_count R) where
    pub block_holds : holds R f i (block_of R f i) ≡ true
    unfolding block_of
    block_holds = lowest_hit (block_count R) (λ b. holds R f i b) there

    pub block_owner : owner R (block_of R f i) ≡ f
    block_owner = holds-owner R f i (block_of R f i) block_holds

    pub block_place : place R (block_of R f i) ≡ i
    block_place = holds-place R f i (block_of R f i) block_holds

  -- it is there where some block is
  pub some_block : 0 < how_many (block_count R) (λ b. holds R f i b) → block_of R f i < block_count R
  unfolding block_of
  some_block h = some_lowest (block_count R) (λ b. holds R f i b) h

-- the lowest free block is there where one is free
pub free_block : (R : List ℕ) → 0 < how_many (block_count R) (λ b. is_free R b) → block_of R 0 0 < block_count R
free_block R h = some_block R 0 0 h

-- block records that agree about the places of f agree about its blocks
pub block_same : (R R' : List ℕ) (f i : ℕ) → block_count R' ≡ block_count R → ((b : ℕ) → b < block_count R → holds R' f i b ≡ holds R f i b)
    → block_of R' f i ≡ block_of R f i
unfolding block_of
block_same R R' f i n e = rw n (lowest_cong (block_count R) (λ b. holds R' f i b) (λ b. holds R f i b) e)

-- ---- a block record of R' is as it was in R

pub record Kept (R R' : List ℕ) (b : ℕ) : Type 0 where
  pub same-owner : owner R' b ≡ owner R b
  pub same_place : place R' b ≡ place R b

pub kept_holds : (R R' : List ℕ) (b : ℕ) → Kept R R' b → (f i : ℕ) → holds R' f i b ≡ holds R f i b
unfolding holds
kept_holds R R' b k f i = rw (k.same-owner, k.same_place)

pub kept_again : {R R₁ R₂ : List ℕ} {b : ℕ} → Kept R R₁ b → Kept R₁ R₂ b → Kept R R₂ b
kept_again k l = record { same-owner = l.same-owner ∙ k.same-owner; same_place = l.same_place ∙ k.same_place }
