-- The block records where a file is to have another length: its places are exactly those it needs, all else is as it was.
use Rattle.std.specs.Prelude.{ℕ, ◌+◌, ◌-◌, ◌/◌, ◌≤◌, ◌<◌, ◌≡◌, ◌≢◌, ◌⊎◌, List, length}
use Rattle.std.proofs.Math.Path.{ap}
use Rattle.std.proofs.Common.{◌∙◌, arith}
use Rattle.std.proofs.Math.Logic.{inl, inr, ⊎_elim}
use Rattle.records.specs.Rows.{tally, how_many}
use Rattle.records.specs.Tests.{same_or_not, lt_or_ge, between_in, between-out}
use Rattle.records.specs.RowLaws.{how_many_cong, how_many_mono}
use Rattle.meaning.specs.File.{needed}
use Rattle.meaning.specs.Store.{free_blocks}
use Rattle.meaning.specs.Tables.{Tables, owner, place, block_count, file_count, file_length, holds, is_free, released, taken_from, resized, store_of}
use Rattle.layout.specs.Blocks.{Kept, kept_again}
use Rattle.layout.specs.Releasing.{length-released, Gone, released-at, released-rest, released-other, released_below, released_free}
use Rattle.layout.specs.Taking.{length-taken_from, Now, Taken, taken-from}
use Rattle.layout.specs.Layout.{Free, Layout}
use Rattle.layout.specs.Places.{count_past}
use Rattle.layout.specs.Counting.{free_blocks_lem, needs_within}

pub length-resized : (R : List ℕ) (f old new : ℕ) → length (resized R f old new) ≡ length R
unfolding resized
length-resized R f old new =
    length-taken_from (needed new - needed old) (released R f (needed new)) f (needed old) ∙ length-released R f (needed new)

-- a block record after the change is free, a place of f, or one of another file, as it was
pub record Own (f n : ℕ) (R : List ℕ) (b : ℕ) : Type 0 where
  pub own_owner : owner R b ≡ f
  pub own_place : place R b < n

pub record Other (f : ℕ) (R R' : List ℕ) (b : ℕ) : Type 0 where
  pub not_own : owner R b ≢ f
  pub as_it_was : Kept R R' b

-- R' is R with f having n places
pub record Placed (B f n : ℕ) (R R' : List ℕ) : Type 0 where
  pub others : (g j b : ℕ) → g ≢ 0 → g ≢ f → b < B → holds R' g j b ≡ holds R g j b
  pub own : (j : ℕ) → j < n → how_many B (λ b. holds R' f j b) ≡ 1
  pub each : (b : ℕ) → b < B → Free R' b ⊎ (Own f n R' b ⊎ Other f R R' b)

module _ (t : Tables) (L : Layout t) (f size : ℕ) (some : f ≢ 0) (last : f ≤ file_count t.file_records)
    (room : needed size - needed (file_length t.file_records f) ≤ free_blocks (store_of t)) where
  -- what has room is not long
  pub few_bytes : size < 4294967296
  few_bytes = omega (arith, needs_within t L f last, L.lengths.few-blocks)

  pub placed : Placed (block_count t.block_records) f (needed size) t.block_records (resized t.block_records f (file_length t.file_records f) size)
  unfolding resized
  placed =
      let R = t.block_records in
      let B = block_count R in
      let old = needed (file_length t.file_records f) in
      let new = needed size in
      let R1 = released R f new in
      let R2 = taken_from R1 f old (new - old) in
      let count : block_count R1 ≡ B = ap (λ (k : ℕ). k / 4) (length-released R f new) in
      let more : how_many B (λ b. is_free R b) ≤ how_many B (λ b. is_free R1 b)
      = how_many_mono B (λ b. is_free R b) (λ b. is_free R1 b) (λ b h e. released_free R f new b h e) in
      let within = needs_within t L f last in
      let free = free_blocks_lem t L in
      let lengths = L.lengths in
      let T : Taken B f old (new - old) R1 R2 = taken-from B f some (omega arith) (new - old) old R1 count (omega arith) (omega arith) in
      record {
        others = λ g j b z d h. T.others g j b z d h ∙ released-other R f new b h g j z d;
        own = λ j h.
            let below : how_many B (λ b. holds R1 f j b) ≡ how_many B (λ b. holds R f j b)
            = how_many_cong B (λ b. holds R1 f j b) (λ b. holds R f j b) (λ b l. released_below R f new b l j some h) in
            ⊎_elim
            (λ (l : j < old). omega (arith, T.own j, ap tally (between-out old j (old + (new - old)) (inl l)), L.exact f j l))
            (λ (l : old ≤ j). omega (arith, T.own j, ap tally (between_in old j (old + (new - old)) l (omega arith)), count_past t L f some j l))
            (lt_or_ge j old);
        each = λ b h.
            ⊎_elim
            (λ (k : Kept R1 R2 b). ⊎_elim
            (λ (g : Gone R f new b). inl (record { no_owner = k.same-owner ∙ g.now_free_owner; no_place = k.same_place ∙ g.now_free_place }))
            (λ (k' : Kept R R1 b). ⊎_elim
            (λ (s : owner R b ≡ f). inr (inl (record {
              own_owner = k.same-owner ∙ k'.same-owner ∙ s;
              own_place = rw k.same_place (released-rest R f new b h some (k'.same-owner ∙ s));
            })))
            (λ (d : owner R b ≢ f). inr (inr (record { not_own = d; as_it_was = kept_again k' k })))
            (same_or_not (owner R b) f))
            (released-at R f new b h))
            (λ (k : Now f old (new - old) R2 b). inr (inl (record { own_owner = k.now-owner; own_place = omega (arith, k.now-from, k.now_below) })))
            (T.each b h);
      }
