-- Places taken: what `taken` and `taken_from` do to each block record. One record is written, and it was free.
use Prim.Native.Nat.{ℕ, zero, suc, ◌+◌, ◌/◌, ◌≤◌, ◌<◌}
use Rattle.std.specs.Prelude.{◌≡◌, ◌≢◌, ◌⊎◌, List, ◌&&◌, length, leb, ltb, eqb}
use Rattle.std.proofs.Math.Path.{refl, ap}
use Rattle.std.proofs.Common.{sym, ◌∙◌, inr, ⊎_elim, arith, eq-eqb, ne_eqb}
use Rattle.std.proofs.Math.Logic.{inl}
use Rattle.records.specs.Rows.{tally, how_many}
use Rattle.records.specs.Tests.{same_or_not, le_or_gt, lt_or_ge, between_in, between-out}
use Rattle.records.specs.RowLaws.{how_many_update}
use Rattle.records.specs.RecordLaws.{length-with_record}
use Rattle.meaning.specs.Tables.{owner, place, block_count, block_record, holds, is_free, block_of, taken, taken_from}
use Rattle.tables.specs.ReadBack.{owner-written, place-written, owner_kept, place_kept}
use Rattle.layout.specs.Blocks.{other-owner, holds_own, block_holds, block_owner, free_block, Kept, kept_holds, kept_again}

-- ---- lengths

pub length_taken : (R : List ℕ) (f i : ℕ) → length (taken R f i) ≡ length R
unfolding taken
length_taken R f i = length-with_record 4 R (block_of R 0 0) (block_record f i)

pub length-taken_from : (n : ℕ) (R : List ℕ) (f i : ℕ) → length (taken_from R f i n) ≡ length R
unfolding taken_from
length-taken_from zero R f i = refl
length-taken_from (suc n) R f i = length-taken_from n (taken R f i) f (suc i) ∙ length_taken R f i

-- ---- a place taken

module _ (R : List ℕ) (f i : ℕ) where
  -- every other record is as it was
  pub taken-other : (b : ℕ) → b ≢ block_of R 0 0 → Kept R (taken R f i) b
  unfolding taken
  taken-other b d = record { same-owner = owner_kept R (block_of R 0 0) f i b d; same_place = place_kept R (block_of R 0 0) f i b d }

  module _ (small_file : f < 65536) (small-place : i < 65536) (room : block_of R 0 0 < block_count R) where
    pub taken-owner : owner (taken R f i) (block_of R 0 0) ≡ f
    unfolding taken
    taken-owner = owner-written R (block_of R 0 0) f i room small_file

    pub taken-place : place (taken R f i) (block_of R 0 0) ≡ i
    unfolding taken
    taken-place = place-written R (block_of R 0 0) f i room small-place

    -- the places of other files are as they were
    pub taken_others : (g j b : ℕ) → g ≢ 0 → g ≢ f → holds (taken R f i) g j b ≡ holds R g j b
    taken_others g j b z d =
        ⊎_elim
        (λ (s : b ≡ block_of R 0 0).
        other-owner (taken R f i) g j b (rw (s, taken-owner) (λ e. d (sym e)))
        ∙ sym (other-owner R g j b (rw (s, block_owner R 0 0 room) (λ e. z (sym e)))))
        (λ (o : b ≢ block_of R 0 0). kept_holds R (taken R f i) b (taken-other b o) g j)
        (same_or_not b (block_of R 0 0))

    module _ (some : f ≢ 0) where
      -- one more block is place i of f
      pub taken_own : (j : ℕ) → how_many (block_count R) (λ b. holds (taken R f i) f j b) ≡ how_many (block_count R) (λ b. holds R f j b) + tally (eqb i j)
      taken_own j =
          let b = block_of R 0 0 in
          let u = how_many_update (block_count R) (λ b. holds R f j b) (λ b. holds (taken R f i) f j b) b room
          (λ b h d. sym (kept_holds R (taken R f i) b (taken-other b d) f j)) in
          let was : tally (holds R f j b) ≡ 0 = ap tally (other-owner R f j b (rw (block_owner R 0 0 room) (λ e. some (sym e)))) in
          let is : tally (holds (taken R f i) f j b) ≡ tally (eqb i j) = rw (holds_own (taken R f i) f j b taken-owner, taken-place) in
          omega arith

      -- one free block less
      pub taken_free : how_many (block_count R) (λ b. is_free (taken R f i) b) + 1 ≡ how_many (block_count R) (λ b. is_free R b)
      taken_free =
          let b = block_of R 0 0 in
          let u = how_many_update (block_count R) (λ b. is_free R b) (λ b. is_free (taken R f i) b) b room
          (λ b h d. sym (kept_holds R (taken R f i) b (taken-other b d) 0 0)) in
          let was : tally (is_free R b) ≡ 1 = ap tally (block_holds R 0 0 room) in
          let is : tally (is_free (taken R f i) b) ≡ 0 = ap tally (other-owner (taken R f i) 0 0 b (rw taken-owner some)) in
          omega arith

-- ---- n places taken, from place i on

-- block b is now one of the places of f from i on
pub record Now (f i n : ℕ) (R : List ℕ) (b : ℕ) : Type 0 where
  pub now-owner : owner R b ≡ f
  pub now-from : i ≤ place R b
  pub now_below : place R b < i + n

-- R' is R with n places of f taken, from i on: of B blocks each is as it was or a new place, and each new place is one block more
pub record Taken (B f i n : ℕ) (R R' : List ℕ) : Type 0 where
  pub others : (g j b : ℕ) → g ≢ 0 → g ≢ f → b < B → holds R' g j b ≡ holds R g j b
  pub own : (j : ℕ) → how_many B (λ b. holds R' f j b) ≡ how_many B (λ b. holds R f j b) + tally (leb i j && ltb j (i + n))
  pub each : (b : ℕ) → b < B → Kept R R' b ⊎ Now f i n R' b

between_none : (i j : ℕ) → tally (leb i j && ltb j (i + 0)) ≡ 0
between_none i j = ap tally (between-out i j (i + 0) (⊎_elim (λ (l : i ≤ j). inr (omega arith)) (λ (l : j < i). inl l) (le_or_gt i j)))

between_step : (i j n : ℕ) → tally (eqb i j) + tally (leb (suc i) j && ltb j (suc i + n)) ≡ tally (leb i j && ltb j (i + suc n))
between_step i j n =
    ⊎_elim
    (λ (e : i ≡ j). rw (eq-eqb i j e, between-out (suc i) j (suc i + n) (inl (omega arith)), between_in i j (i + suc n) (omega arith) (omega arith)))
    (λ (d : i ≢ j). ⊎_elim
    (λ (b : j < i). rw (ne_eqb i j d, between-out (suc i) j (suc i + n) (inl (omega arith)), between-out i j (i + suc n) (inl b)))
    (λ (b : i ≤ j). ⊎_elim
    (λ (u : j < i + suc n). rw (ne_eqb i j d, between_in (suc i) j (suc i + n) (omega arith) (omega arith), between_in i j (i + suc n) b u))
    (λ (u : i + suc n ≤ j). rw (ne_eqb i j d, between-out (suc i) j (suc i + n) (inr (omega arith)), between-out i j (i + suc n) (inr u)))
    (lt_or_ge j (i + suc n)))
    (lt_or_ge j i))
    (same_or_not i j)

module _ (B f : ℕ) (some : f ≢ 0) (small_file : f < 65536) where
  -- one place and then n are n + 1
  one_more : (n i : ℕ) (R R' : List ℕ) → block_count R ≡ B → i < 65536 → block_of R 0 0 < B → Taken B f (suc i) n (taken R f i) R' → Taken B f i (suc n) R R'
  one_more n i R R' count small-place room r =
      let room' : block_of R 0 0 < block_count R = omega arith in
      let first : (j : ℕ) → how_many B (λ b. holds (taken R f i) f j b) ≡ how_many B (λ b. holds R f j b) + tally (eqb i j) =
      λ j. rw count at (taken_own R f i small_file small-place room' some j) in
      record {
        others = λ g j b z d h. r.others g j b z d h ∙ taken_others R f i small_file small-place room' g j b z d;
        own = λ j. omega (arith, r.own j, first j, between_step i j n);
        each = λ b h. ⊎_elim
            (λ (k : Kept (taken R f i) R' b). ⊎_elim
            (λ (e : b ≡ block_of R 0 0).
            let p : place R' b ≡ i = k.same_place ∙ ap (place (taken R f i)) e ∙ taken-place R f i small_file small-place room' in
            inr (record {
              now-owner = k.same-owner ∙ ap (owner (taken R f i)) e ∙ taken-owner R f i small_file small-place room';
              now-from = omega arith;
              now_below = omega arith;
            }))
            (λ (d : b ≢ block_of R 0 0). inl (kept_again (taken-other R f i b d) k))
            (same_or_not b (block_of R 0 0)))
            (λ (k : Now f (suc i) n R' b). inr (record { now-owner = k.now-owner; now-from = omega arith; now_below = omega arith }))
            (r.each b h);
      }

  pub taken-from : (n i : ℕ) (R : List ℕ) → block_count R ≡ B → i + n ≤ 65536 → n ≤ how_many B (λ b. is_free R b) → Taken B f i n R (taken_from R f i n)
  unfolding taken_from
  taken-from zero i R count small enough =
      record {
        others = λ g j b z d h. refl;
        own = λ j. omega (arith, between_none i j);
        each = λ b h. inl (record { same-owner = refl; same_place = refl });
      }
  taken-from (suc n) i R count small enough =
      let free : 0 < how_many (block_count R) (λ b. is_free R b) = rw count (omega arith) in
      let room : block_of R 0 0 < block_count R = free_block R free in
      let less : how_many B (λ b. is_free (taken R f i) b) + 1 ≡ how_many B (λ b. is_free R b) =
      rw count at (taken_free R f i small_file (omega arith) room some) in
      let count' : block_count (taken R f i) ≡ B = ap (λ (n : ℕ). n / 4) (length_taken R f i) ∙ count in
      one_more n i R (taken_from (taken R f i) f (suc i) n) count (omega arith) (omega arith)
      (taken-from n (suc i) (taken R f i) count' (omega arith) (omega arith))
