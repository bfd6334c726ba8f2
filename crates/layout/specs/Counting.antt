-- Free blocks, counted in the records, are the free blocks of the store; with the blocks that files need they are all blocks.
use Prim.Native.Nat.{ℕ, zero, suc, ◌+◌, ◌-◌, ◌≤◌, ◌<◌}
use Rattle.std.specs.Prelude.{◌≡◌, refl, ◌≢◌, eqb}
use Rattle.std.proofs.Common.{ap, ◌∙◌, ⊎_elim, eq-eqb, ne_eqb}
use Rattle.std.proofs.Math.Path.{sym}
use native.Mathlib.Omega.{arith}
use Rattle.records.specs.Rows.{tally, how_many, sum}
use Rattle.records.specs.Tests.{same_or_not}
use Rattle.records.specs.RowLaws.{how_many_none, how_many-one, sum_cong, sum-add, sum_constant, sum_swap, sum_term}
use Rattle.meaning.specs.File.{needed}
use Rattle.meaning.specs.Store.{blocks_needed, free_blocks}
use Rattle.meaning.specs.Tables.{Tables, owner, place, block_count, file_count, length_at, file_length, holds, is_free, store_of}
use Rattle.tables.specs.Searches.{free_block_count, needed_blocks}
use Rattle.tables.specs.StoreLaws.{blocks-needed}
use Rattle.layout.specs.Blocks.{other-owner, other_place, its_place}
use Rattle.layout.specs.Layout.{Free, Held, Layout}
use Rattle.layout.specs.Places.{owned_below}

module _ (t : Tables) (L : Layout t) where
  -- block b is one of the places of f exactly if f owns it
  one_place : (f b : ℕ) → f ≢ 0 → b < block_count t.block_records
      → how_many (needed (file_length t.file_records f)) (λ i. holds t.block_records f i b) ≡ tally (eqb (owner t.block_records b) f)
  one_place f b z h =
      let R = t.block_records in
      let n = needed (file_length t.file_records f) in
      ⊎_elim
      (λ (o : owner R b ≡ f).
      how_many-one n (λ i. holds R f i b) (place R b) (owned_below t L f z b h o) (its_place R f (place R b) b o refl) (λ i m d. other_place R f i b (λ e. d (sym e)))
      ∙ sym (ap tally (eq-eqb (owner R b) f o)))
      (λ (d : owner R b ≢ f).
      how_many_none n (λ i. holds R f i b) (λ i m. other-owner R f i b d) ∙ sym (ap tally (ne_eqb (owner R b) f d)))
      (same_or_not (owner R b) f)

  -- a file owns as many blocks as it needs
  pub owned : (f : ℕ) → f ≢ 0 → needed (file_length t.file_records f) ≡ how_many (block_count t.block_records) (λ b. eqb (owner t.block_records b) f)
  unfolding how_many
  owned f z =
      let R = t.block_records in
      let B = block_count R in
      let n = needed (file_length t.file_records f) in
      let one : sum n (λ i. 1) ≡ n = omega (arith, sum_constant n 1) in
      sym one
      ∙ sum_cong n (λ i. 1) (λ i. sum B (λ b. tally (holds R f i b))) (λ i h. sym (L.exact f i h))
      ∙ sum_swap n B (λ i b. tally (holds R f i b))
      ∙ sum_cong B (λ b. sum n (λ i. tally (holds R f i b))) (λ b. tally (eqb (owner R b) f)) (λ b h. one_place f b z h)

  -- a block is free, or has one owner among the files
  one-owner : (b : ℕ) → b < block_count t.block_records
      → tally (is_free t.block_records b) + how_many (file_count t.file_records) (λ r. eqb (owner t.block_records b) (suc r)) ≡ 1
  one-owner b h =
      let R = t.block_records in
      let F = file_count t.file_records in
      ⊎_elim
      (λ (e : Free R b). omega (
        arith,
        ap tally (its_place R 0 0 b e.no_owner e.no_place),
        how_many_none F (λ r. eqb (owner R b) (suc r)) (λ r l. ne_eqb (owner R b) (suc r) (omega arith)),
      ))
      (λ (e : Held t b). omega (
        arith,
        ap tally (other-owner R 0 0 b (omega arith)),
        how_many-one F (λ r. eqb (owner R b) (suc r)) (owner R b - 1) (omega arith) (eq-eqb (owner R b) (suc (owner R b - 1)) (omega arith))
            (λ r l d. ne_eqb (owner R b) (suc r) (omega arith)),
      ))
      (L.rule b h)

  -- the sum over files of the blocks that each needs, and the free blocks, are all blocks
  pub all_blocks : free_block_count t.block_records + needed_blocks t.file_records ≡ block_count t.block_records
  unfolding free_block_count needed_blocks file_length how_many
  all_blocks =
      let R = t.block_records in
      let B = block_count R in
      let F = file_count t.file_records in
      let own = sum_cong F (λ r. needed (length_at t.file_records r)) (λ r. sum B (λ b. tally (eqb (owner R b) (suc r)))) (λ r h. owned (suc r) (omega arith)) in
      let swap = sum_swap F B (λ r b. tally (eqb (owner R b) (suc r))) in
      let both = sum-add B (λ b. tally (is_free R b)) (λ b. sum F (λ r. tally (eqb (owner R b) (suc r)))) in
      let each = sum_cong B (λ b. tally (is_free R b) + sum F (λ r. tally (eqb (owner R b) (suc r)))) (λ b. 1) one-owner in
      let all = sum_constant B 1 in
      omega arith

  -- ---- the same of the store

  pub free_block_count_lem : free_block_count t.block_records ≡ free_blocks (store_of t)
  unfolding free_blocks store_of
  free_block_count_lem = omega (arith, all_blocks, blocks-needed t)

  pub free_blocks_lem : how_many (block_count t.block_records) (λ b. is_free t.block_records b) ≡ free_blocks (store_of t)
  unfolding free_block_count
  free_blocks_lem = free_block_count_lem

  pub free_and_needed : free_blocks (store_of t) + blocks_needed (store_of t) ≡ (store_of t).block_count
  unfolding store_of
  free_and_needed = omega (arith, all_blocks, free_block_count_lem, blocks-needed t)

  -- the free blocks and those of one file are at most all
  pub needs_within : (f : ℕ) → f ≤ file_count t.file_records
      → free_blocks (store_of t) + needed (file_length t.file_records f) ≤ block_count t.block_records
  unfolding file_length needed_blocks
  needs_within zero last = omega (arith, all_blocks, free_block_count_lem)
  needs_within (suc r) last =
      omega (arith, all_blocks, free_block_count_lem, sum_term (file_count t.file_records) (λ r. needed (length_at t.file_records r)) r (omega arith))
