-- Blocks counted by owner and place, in one row.
use Rattle.std.specs.Prelude.{ℕ, suc, ◌+◌, ◌*◌, ◌≤◌, ◌<◌, ◌≡◌, ◌≢◌, List, Bool, true, ◌&&◌, length, set, replicate, ltb}
use Rattle.std.proofs.Math.Path.{sym}
use Rattle.std.proofs.Common.{ap, ◌∙◌, get_or-set_same}
use Rattle.std.proofs.Math.Logic.{⊎_elim}
use Rattle.std.proofs.Math.Bool.{false}
use native.Mathlib.Omega.{arith}
use Rattle.std.proofs.Math.ListN.{get_or, length-set}
use Rattle.std.proofs.lemmas.List.{length-replicate, get_or-replicate}
use Rattle.std.proofs.Math.Seq.{get_or-set_other}
use Rattle.std.proofs.Math.Dec.{eqb}
use borrow.Author.Tests.{eq-eqb, ne_eqb, eqb-true, ltb-true}
use Rattle.records.specs.Rows.{every, how_many}
use Rattle.records.specs.RowLaws.{every_all, every_cong}
use Rattle.records.specs.LoopLaws.{count_start, count_hit, count_miss, how_many-within}
use Rattle.records.specs.Tests.{both, either, and_false, same_or_not}
use Rattle.meaning.specs.File.{needed}
use Rattle.meaning.specs.Store.{in_use}
use Rattle.meaning.specs.Tables.{store_of, block_count, file_count, owner, place, holds, is_free, file_length}
use Rattle.meaning.specs.Sound.{files_sound, block_sound, placed_once}
use Rattle.soundness.specs.Use.{used}
use Rattle.soundness.specs.Seen.{files_store, record_tables}
use Rattle.soundness.specs.SoundLaws.{files_short}

-- no owner's number is above 64, 0 being that of a free block, and no place above 63
pub record Placeable (records : List ℕ) : Type 0 where
  pub few : block_count records ≤ 128
  pub owners : (b : ℕ) → b < block_count records → owner records b ≤ 64
  pub places : (b : ℕ) → b < block_count records → place records b < 64

-- a row of counts, 64 to a file: how many of the first n blocks are each place of each file
pub record PlaceCounts (records : List ℕ) (n : ℕ) (counts : List ℕ) : Type 0 where
  pub size : length counts ≡ 4160
  pub each : (f i : ℕ) → 0 < f → f ≤ 64 → i < 64 → get_or counts (64 * f + i) 0 ≡ how_many n (λ b. holds records f i b)

-- each of the first n places of file f is counted once
unfoldable pub counted_below : List ℕ → ℕ → ℕ → Bool
counted_below counts f n = every n (λ i. eqb (get_or counts (64 * f + i) 0) 1)

-- each place of file f is
unfoldable pub counted_once : List ℕ → List ℕ → ℕ → Bool
counted_once counts files f = counted_below counts f (needed (file_length files f))

-- ---- sound block records can be counted so

module _ (records files : List ℕ) (few-blocks : block_count records ≤ 128) (few-files : file_count files ≤ 64) (sound-files : files_sound (files_store files) ≡ true)
    (sound-blocks : every (block_count records) (block_sound (record_tables records files)) ≡ true) where
  low : (b : ℕ) → b < block_count records → (owner records b ≤ 64) × (place records b < 64)
  unfolding block_sound holds store_of
  low b h =
      ⊎_elim
      (λ (e : is_free records b ≡ true).
      let (f, i) = both (eqb (owner records b) 0) (eqb (place records b) 0) e in
      (omega (arith, eqb-true (owner records b) 0 f), omega (arith, eqb-true (place records b) 0 i)))
      (λ e.
      let (u, p) = both (in_use (store_of (record_tables records files)) (owner records b)) (ltb (place records b) (needed (file_length files (owner records b)))) e in
      let is = used (store_of (record_tables records files)) (owner records b) u in
      let within : owner records b ≤ file_count files = is.within in
      let short : file_length files (owner records b) ≤ 32768 = files_short files sound-files (owner records b) within in
      (omega arith, omega (arith, ltb-true (place records b) (needed (file_length files (owner records b))) p)))
      (either (is_free records b) _ (every_all (block_count records) (block_sound (record_tables records files)) sound-blocks b h))

  pub placeable : Placeable records
  placeable = record { few = few-blocks; owners = λ b h. (low b h).0; places = λ b h. (low b h).1 }

-- ---- one block more

module _ (records : List ℕ) where
  pub places_start : PlaceCounts records 0 (replicate 4160 0)
  places_start =
      record {
        size = length-replicate {A = ℕ} 4160 0;
        each = λ f i s h l. get_or-replicate {A = ℕ} 4160 (64 * f + i) 0 0 (omega arith) ∙ sym (count_start (λ b. holds records f i b));
      }

  module _ (b : ℕ) (counts : List ℕ) (so_far : PlaceCounts records b counts) where
    -- a free block is no file's
    pub places_free : owner records b ≡ 0 → PlaceCounts records (b + 1) counts
    unfolding holds
    places_free z =
        record {
          size = so_far.size;
          each = λ g j s l m.
              let miss : how_many (b + 1) (λ b. holds records g j b) ≡ how_many b (λ b. holds records g j b) =
              count_miss (λ b. holds records g j b) b (rw (ne_eqb (owner records b) g (λ e. omega arith))) in
              omega (arith, so_far.each g j s l m);
        }

  module _ (can : Placeable records) (b : ℕ) (h : b < block_count records) (counts : List ℕ) (so_far : PlaceCounts records b counts)
      (f i : ℕ) (f-is : f ≡ owner records b) (i-is : i ≡ place records b) (some : f ≢ 0) where
    pub place_there : 64 * f + i < 4160
    place_there = omega (arith, can.owners b h, can.places b h)

    pub place_low : get_or counts (64 * f + i) 0 ≤ 128
    place_low =
        omega (arith, so_far.each f i (omega arith) (omega (arith, can.owners b h)) (omega (arith, can.places b h)), how_many-within (λ b. holds records f i b) b, can.few)

    pub places-next : PlaceCounts records (b + 1) (set counts (64 * f + i) (get_or counts (64 * f + i) 0 + 1))
    unfolding holds
    places-next =
        record {
          size = length-set counts (64 * f + i) (get_or counts (64 * f + i) 0 + 1) ∙ so_far.size;
          each = λ g j s (l : g ≤ 64) (m : j < 64). ⊎_elim
              (λ (e : 64 * g + j ≡ 64 * f + i).
              let il : i < 64 = omega (arith, can.places b h) in
              let ef : g ≡ f = omega arith in
              let ei : j ≡ i = omega arith in
              let hit : how_many (b + 1) (λ b. holds records g j b) ≡ how_many b (λ b. holds records g j b) + 1 =
              count_hit (λ b. holds records g j b) b (rw (eq-eqb (owner records b) g (sym f-is ∙ sym ef), eq-eqb (place records b) j (sym i-is ∙ sym ei))) in
              let now : get_or (set counts (64 * f + i) (get_or counts (64 * f + i) 0 + 1)) (64 * g + j) 0 ≡ get_or counts (64 * g + j) 0 + 1 =
              rw e (get_or-set_same counts (64 * f + i) (get_or counts (64 * f + i) 0 + 1) 0 (omega (arith, place_there, so_far.size))) in
              omega (arith, so_far.each g j s l m))
              (λ (d : 64 * g + j ≢ 64 * f + i).
              let miss : how_many (b + 1) (λ b. holds records g j b) ≡ how_many b (λ b. holds records g j b) =
              count_miss (λ b. holds records g j b) b (another g j d) in
              let now : get_or (set counts (64 * f + i) (get_or counts (64 * f + i) 0 + 1)) (64 * g + j) 0 ≡ get_or counts (64 * g + j) 0 =
              get_or-set_other counts (64 * f + i) (64 * g + j) (get_or counts (64 * f + i) 0 + 1) 0 d in
              omega (arith, so_far.each g j s l m))
              (same_or_not (64 * g + j) (64 * f + i));
        }
      where
        another : (g j : ℕ) → 64 * g + j ≢ 64 * f + i → eqb (owner records b) g && eqb (place records b) j ≡ false
        another g j d =
            ⊎_elim
            (λ (e : owner records b ≡ g). rw (ne_eqb (place records b) j (λ p. d (omega arith)), and_false (eqb (owner records b) g)))
            (λ (o : owner records b ≢ g). rw (ne_eqb (owner records b) g o))
            (same_or_not (owner records b) g)

-- ---- what the counts say

pub counted_placed : (records files : List ℕ) (counts : List ℕ) → PlaceCounts records (block_count records) counts →
    file_count files ≤ 64 → files_sound (files_store files) ≡ true →
    every (file_count files) (λ r. counted_once counts files (suc r)) ≡ every (file_count files) (λ r. placed_once (record_tables records files) (suc r))
unfolding counted_once counted_below placed_once
counted_placed records files counts counted few sound-files =
    every_cong (file_count files) (λ r. counted_once counts files (suc r)) (λ r. placed_once (record_tables records files) (suc r))
    (λ r (h : r < file_count files).
    every_cong (needed (file_length files (suc r))) (λ i. eqb (get_or counts (64 * suc r + i) 0) 1) (λ i. eqb (how_many (block_count records) (λ b. holds records (suc r) i b)) 1)
    (λ i (l : i < needed (file_length files (suc r))).
    ap (λ n. eqb n 1) (counted.each (suc r) i (omega arith) (omega arith) (omega (arith, files_short files sound-files (suc r) h)))))
