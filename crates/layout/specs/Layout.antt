-- The layout of a sound store in plain facts: table lengths, zeros of records, the rule of block records, one block for each place.
use Prim.Native.Nat.{ℕ, zero, suc, ◌+◌, ◌*◌, ◌≤◌, ◌<◌}
use Rattle.std.specs.Prelude.{◌≡◌, refl, ◌≢◌, ◌⊎◌, List, true, not, ◌&&◌, length, get_or, eqb}
use Rattle.std.proofs.Common.{sym, ◌∙◌, true≢false, arith}
use Rattle.std.proofs.Math.Logic.{inl, inr, ⊎_elim}
use Rattle.std.proofs.Math.ListN.{get_or-eq_default}
use Rattle.std.proofs.Math.Dec.{leb, ltb}
use borrow.Author.Tests.{eq-eqb, ne_eqb, eqb-true, leb-true, ltb-true, le-leb, lt-ltb}
use Rattle.records.specs.Rows.{how_many, every}
use Rattle.records.specs.Tests.{both, and_both, either, or_left, or_right, lt_or_ge, all_of-true, true-all_of}
use Rattle.records.specs.RowLaws.{every_all, all_every}
use Rattle.records.specs.Numbers.{one, two, four, zeros}
use Rattle.records.specs.ListLaws.{length-list_of}
use Rattle.meaning.specs.File.{needed}
use Rattle.meaning.specs.Store.{Store, in_use}
use Rattle.meaning.specs.Tables.{Tables, store_of, file_of, byte_of, block_count, file_count, channel_count, owner, place, holds, is_free, length_at, file_length}
use Rattle.meaning.specs.Sound.{zeros_stand, block_sound, placed_once, blocks_sound, layout_sound, well_formed, sound}
use Rattle.layout.specs.Lengths.{Lengths, lengths_agree_lem, agree_lengths}
use Rattle.layout.specs.Blocks.{its_place, holds-owner, holds-place}

-- a block record is all zero
pub record Free (R : List ℕ) (b : ℕ) : Type 0 where
  pub no_owner : owner R b ≡ 0
  pub no_place : place R b ≡ 0

-- or its block is a place of a file in use
pub record Held (t : Tables) (b : ℕ) : Type 0 where
  pub some_file : 0 < owner t.block_records b
  pub its_file : owner t.block_records b ≤ file_count t.file_records
  pub is_in_use : (file_of t (owner t.block_records b)).kind ≢ 0
  pub below : place t.block_records b < needed (file_length t.file_records (owner t.block_records b))

pub record Layout (t : Tables) : Type 0 where
  pub lengths : Lengths t
  pub file-zeros : (r : ℕ) → r < file_count t.file_records → zeros t.file_records (8 * r + 2) 2 ≡ true
  pub channel_zeros : (c : ℕ) → c < channel_count t.channel_records → zeros t.channel_records (8 * c + 2) 2 ≡ true
  pub rule : (b : ℕ) → b < block_count t.block_records → Free t.block_records b ⊎ Held t b
  pub exact : (f i : ℕ) → i < needed (file_length t.file_records f)
      → how_many (block_count t.block_records) (λ b. holds t.block_records f i b) ≡ 1

-- the tables hold store s, in a sound layout
pub record Holding (t : Tables) (s : Store) : Type 0 where
  pub stored : store_of t ≡ s
  pub laid_out : Layout t

-- ---- what the records say of the store

pub length-file : (t : Tables) (f : ℕ) → length (file_of t f).bytes ≡ file_length t.file_records f
unfolding file_of file_length
length-file t zero = refl
length-file t (suc r) = length-list_of (length_at t.file_records r) (λ k. byte_of t (suc r) k)

-- what has a place is a file: 0 means none
pub not_none : (records : List ℕ) (f i : ℕ) → i < needed (file_length records f) → f ≢ 0
unfolding file_length
not_none records zero i h = absurd (omega arith)
not_none records (suc r) i h = omega arith

-- a file number past the last has no length
past_length : (records : List ℕ) (r : ℕ) → length records ≤ 8 * r → length_at records r ≡ 0
unfolding length_at four two one
past_length records r h =
    let z : (j : ℕ) → 8 * r ≤ j → get_or records j 0 ≡ 0 = λ j (l : 8 * r ≤ j). get_or-eq_default records 0 (omega arith) in
    let a = 8 * r + 4 in
    omega (arith, z a (omega arith), z (a + 1) (omega arith), z (a + 2) (omega arith), z (a + 2 + 1) (omega arith))

module _ (s : Store) (f : ℕ) where
  pub in_use_facts : in_use s f ≡ true → (0 < f) × (f ≤ s.file_count) × ((s.file f).kind ≢ 0)
  unfolding in_use
  in_use_facts e =
      let (u, k) = both (ltb 0 f && leb f s.file_count) (not (eqb (s.file f).kind 0)) e in
      let (some, last) = both (ltb 0 f) (leb f s.file_count) u in
      (ltb-true 0 f some, leb-true f s.file_count last, λ z. absurd (true≢false (sym k ∙ rw (eq-eqb (s.file f).kind 0 z))))

  pub facts_in_use : 0 < f → f ≤ s.file_count → (s.file f).kind ≢ 0 → in_use s f ≡ true
  unfolding in_use
  facts_in_use some last k = rw (lt-ltb 0 f some, le-leb f s.file_count last, ne_eqb (s.file f).kind 0 k)

-- ---- the rules hold exactly where the tests pass

module _ (t : Tables) where
  rule_of_lem : (b : ℕ) → block_sound t b ≡ true → Free t.block_records b ⊎ Held t b
  unfolding block_sound store_of
  rule_of_lem b e =
      let f = owner t.block_records b in
      let p = place t.block_records b in
      let n = needed (file_length t.file_records f) in
      ⊎_elim
      (λ (v : is_free t.block_records b ≡ true). inl (record { no_owner = holds-owner t.block_records 0 0 b v; no_place = holds-place t.block_records 0 0 b v }))
      (λ (v : in_use (store_of t) f && ltb p n ≡ true).
      let (u, l) = both (in_use (store_of t) f) (ltb p n) v in
      let (some, last, kind) = in_use_facts (store_of t) f u in
      inr (record { some_file = some; its_file = last; is_in_use = kind; below = ltb-true p n l }))
      (either (is_free t.block_records b) (in_use (store_of t) f && ltb p n) e)

  of_rule : (b : ℕ) → Free t.block_records b ⊎ Held t b → block_sound t b ≡ true
  unfolding block_sound store_of
  of_rule b e =
      let f = owner t.block_records b in
      let p = place t.block_records b in
      let n = needed (file_length t.file_records f) in
      ⊎_elim
      (λ (v : Free t.block_records b). or_left _ _ (its_place t.block_records 0 0 b v.no_owner v.no_place))
      (λ (v : Held t b). or_right (is_free t.block_records b) (in_use (store_of t) f && ltb p n)
      (and_both (in_use (store_of t) f) (ltb p n) (facts_in_use (store_of t) f v.some_file v.its_file v.is_in_use) (lt-ltb p n v.below)))
      e

  once_of : (f : ℕ) → placed_once t f ≡ true → (i : ℕ) → i < needed (file_length t.file_records f)
      → how_many (block_count t.block_records) (λ b. holds t.block_records f i b) ≡ 1
  unfolding placed_once
  once_of f e i h = eqb-true _ _ (every_all _ _ e i h)

  of_once : (f : ℕ)
      → ((i : ℕ) → i < needed (file_length t.file_records f) → how_many (block_count t.block_records) (λ b. holds t.block_records f i b) ≡ 1)
      → placed_once t f ≡ true
  unfolding placed_once
  of_once f e = all_every _ _ (λ i h. eq-eqb _ _ (e i h))

  -- file 0 and files past the last have no places
  exact_of : Lengths t → ((r : ℕ) → r < file_count t.file_records → placed_once t (suc r) ≡ true) → (f i : ℕ)
      → i < needed (file_length t.file_records f) → how_many (block_count t.block_records) (λ b. holds t.block_records f i b) ≡ 1
  unfolding file_length
  exact_of l once zero i h = absurd (omega arith)
  exact_of l once (suc r) i h =
      ⊎_elim
      (λ (m : r < file_count t.file_records). once_of (suc r) (once r m) i h)
      (λ (m : file_count t.file_records ≤ r). absurd (omega (arith, past_length t.file_records r (omega arith))))
      (lt_or_ge r (file_count t.file_records))

  pub layout : layout_sound t ≡ true → Layout t
  unfolding layout_sound zeros_stand blocks_sound
  layout e =
      let (lengths, (zeros-stand, (blocks-sound, _))) = all_of-true _ e in
      let l = lengths_agree_lem t lengths in
      let (files, channels) = both (every _ (λ r. zeros t.file_records (8 * r + 2) 2)) (every _ (λ c. zeros t.channel_records (8 * c + 2) 2)) zeros-stand in
      let (rules, places) = both (every _ (λ b. block_sound t b)) (every _ (λ r. placed_once t (suc r))) blocks-sound in
      record {
        lengths = l;
        file-zeros = every_all _ (λ r. zeros t.file_records (8 * r + 2) 2) files;
        channel_zeros = every_all _ (λ c. zeros t.channel_records (8 * c + 2) 2) channels;
        rule = λ b h. rule_of_lem b (every_all _ (λ b. block_sound t b) rules b h);
        exact = exact_of l (every_all _ (λ r. placed_once t (suc r)) places);
      }

  pub of_layout : Layout t → layout_sound t ≡ true
  unfolding layout_sound zeros_stand blocks_sound
  of_layout L =
      true-all_of _ (
        agree_lengths t L.lengths,
        (
          and_both _ _
              (all_every _ (λ r. zeros t.file_records (8 * r + 2) 2) L.file-zeros)
              (all_every _ (λ c. zeros t.channel_records (8 * c + 2) 2) L.channel_zeros),
          (
            and_both _ _
                (all_every _ (λ b. block_sound t b) (λ b h. of_rule b (L.rule b h)))
                (all_every _ (λ r. placed_once t (suc r)) (λ r h. of_once (suc r) (L.exact (suc r)))),
            tt,
          ),
        ),
      )

  pub sound_layout : sound t ≡ true → Layout t
  unfolding sound
  sound_layout e = layout (both (layout_sound t) (well_formed (store_of t)) e).0
