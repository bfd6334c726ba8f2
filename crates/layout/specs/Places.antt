-- In a sound layout the blocks of a file are exactly its places: each has a block, and only one.
use Rattle.std.specs.Prelude.{ℕ, ◌+◌, ◌*◌, ◌≤◌, ◌<◌, ◌≡◌, refl, ◌≢◌, Bool, true, false, length, eqb}
use Rattle.std.proofs.Common.{ap, sym, ◌∙◌, ⊎_elim, arith, eq-eqb, ne_eqb}
use Rattle.records.specs.Rows.{pick, tally, how_many}
use Rattle.records.specs.Tests.{same_or_not}
use Rattle.records.specs.RowLaws.{sum_update, sum_term, how_many_none}
use Rattle.meaning.specs.File.{needed}
use Rattle.meaning.specs.Tables.{Tables, block_count, owner, place, holds, block_of, file_length}
use Rattle.layout.specs.Blocks.{holds-owner, holds-place, other-owner, other_place, some_block, block_holds}
use Rattle.layout.specs.Layout.{Free, Held, Layout}

-- two indices that pass count for two
pub how_many-two : (n : ℕ) (p : ℕ → Bool) (j k : ℕ) → j < n → k < n → j ≢ k → p j ≡ true → p k ≡ true → 2 ≤ how_many n p
unfolding how_many
how_many-two n p j k hj hk d ej ek =
    let rest : ℕ → ℕ = λ i. pick (eqb i j) 0 (tally (p i)) in
    let u = sum_update n rest (λ i. tally (p i)) j hj (λ i h m. rw (ne_eqb i j m)) in
    let gone : rest j ≡ 0 = rw (eq-eqb j j refl) in
    let left : rest k ≡ 1 = rw (ne_eqb k j (λ e. d (sym e)), ek) in
    omega (arith, sum_term n rest k hk, ap tally ej)

module _ (t : Tables) (L : Layout t) (f : ℕ) where
  -- each place of f has a block
  pub block_there : (i : ℕ) → i < needed (file_length t.file_records f) → block_of t.block_records f i < block_count t.block_records
  block_there i h = some_block t.block_records f i (omega (arith, L.exact f i h))

  -- it lies within the blocks
  pub block_inside : (i : ℕ) → i < needed (file_length t.file_records f) → 512 * block_of t.block_records f i + 512 ≤ length t.blocks
  block_inside i h = omega (arith, block_there i h, L.lengths.blocks)

  module _ (z : f ≢ 0) where
    -- what f owns is one of its places
    pub owned_below : (b : ℕ) → b < block_count t.block_records → owner t.block_records b ≡ f
        → place t.block_records b < needed (file_length t.file_records f)
    owned_below b h o =
        ⊎_elim
        (λ (e : Free t.block_records b). absurd (z (sym o ∙ e.no_owner)))
        (λ (e : Held t b). rw o at e.below)
        (L.rule b h)

    -- no block is a place of f past its end
    pub none_past : (i : ℕ) → needed (file_length t.file_records f) ≤ i → (b : ℕ) → b < block_count t.block_records
        → holds t.block_records f i b ≡ false
    none_past i past b h =
        ⊎_elim
        (λ (o : owner t.block_records b ≡ f). other_place t.block_records f i b (omega (arith, owned_below b h o)))
        (λ (d : owner t.block_records b ≢ f). other-owner t.block_records f i b d)
        (same_or_not (owner t.block_records b) f)

    pub count_past : (i : ℕ) → needed (file_length t.file_records f) ≤ i → how_many (block_count t.block_records) (λ b. holds t.block_records f i b) ≡ 0
    count_past i past = how_many_none (block_count t.block_records) (λ b. holds t.block_records f i b) (none_past i past)

    -- two blocks that are one place are one block
    pub unique : (i b c : ℕ) → b < block_count t.block_records → c < block_count t.block_records
        → holds t.block_records f i b ≡ true → holds t.block_records f i c ≡ true → b ≡ c
    unique i b c hb hc eb ec =
        let o : owner t.block_records b ≡ f = holds-owner t.block_records f i b eb in
        let p : place t.block_records b ≡ i = holds-place t.block_records f i b eb in
        let l : i < needed (file_length t.file_records f) = omega (arith, owned_below b hb o) in
        ⊎_elim
        (λ (s : b ≡ c). s)
        (λ (d : b ≢ c).
        let two = how_many-two (block_count t.block_records) (λ b. holds t.block_records f i b) b c hb hc d eb ec in
        absurd (omega (arith, L.exact f i l)))
        (same_or_not b c)

    -- so a block is found by the place that it is
    pub its_block : (i b : ℕ) → b < block_count t.block_records → holds t.block_records f i b ≡ true → block_of t.block_records f i ≡ b
    its_block i b h e =
        let p : place t.block_records b ≡ i = holds-place t.block_records f i b e in
        let l : i < needed (file_length t.file_records f) = omega (arith, owned_below b h (holds-owner t.block_records f i b e)) in
        let there = block_there i l in
        unique i (block_of t.block_records f i) b there h (block_holds t.block_records f i there) e
