-- A change of a file, made in the tables, is that change of the store.
use Prim.Native.Nat.{ℕ, zero, suc, ◌+◌, ◌-◌, ◌*◌, ◌/◌, ◌%◌, ◌≤◌, ◌<◌}
use Rattle.std.specs.Prelude.{◌≡◌, ◌≢◌, List, eqb}
use Rattle.std.proofs.Math.Path.{refl, ap, fun_ext}
use Rattle.std.proofs.Common.{sym, ◌∙◌, ⊎_elim, eq-eqb, ne_eqb}
use native.Mathlib.Omega.{arith}
use Rattle.std.proofs.Math.ListN.{length}
use Rattle.records.specs.Rows.{pick, how_many, list_of}
use Rattle.records.specs.Tests.{same_or_not}
use Rattle.records.specs.Numbers.{one, with_record}
use Rattle.records.specs.RecordLaws.{length-with_record}
use Rattle.records.specs.ListLaws.{is_list_of, list_of_cong}
use Rattle.meaning.specs.File.{needed}
use Rattle.meaning.specs.Store.{File, file, after, free_blocks}
use Rattle.meaning.specs.Tables.{Tables, block_count, file_count, holds, block_of, length_at, file_length, file_record, byte_of, resized, put, file_of, channel_of, store_of}
use Rattle.tables.specs.ReadBack.{kind-written, depth-written, length-written, kind_kept, depth_kept, length_kept}
use Rattle.layout.specs.Blocks.{some_block, block_owner, block_place, block_same}
use Rattle.layout.specs.Laying.{laid_own, laid-other}
use Rattle.layout.specs.Layout.{Layout, length-file}
use Rattle.layout.specs.Places.{block_there}
use Rattle.layout.specs.Fits.{FileFits}
use Rattle.layout.specs.Resizing.{length-resized, Placed, placed, few_bytes}

-- the block records after a change of file f, whose record is number r, to x
abbrev pub records_after : Tables → ℕ → File → List ℕ
records_after t r x = resized t.block_records (suc r) (length_at t.file_records r) (length x.bytes)

module _ (t : Tables) (L : Layout t) (r : ℕ) (x : File) (ok : FileFits (store_of t) (suc r) x) where
  -- ---- what fits, said of the tables

  pub file_there : r < file_count t.file_records
  unfolding store_of
  file_there = omega (arith, ok.to_last)

  room_there : needed (length x.bytes) - needed (file_length t.file_records (suc r)) ≤ free_blocks (store_of t)
  unfolding store_of
  room_there = rw (sym (length-file t (suc r))) ok.room

  pub places-after : Placed (block_count t.block_records) (suc r) (needed (length x.bytes)) t.block_records (records_after t r x)
  unfolding file_length
  places-after = placed t L (suc r) (length x.bytes) (omega arith) file_there room_there

  pub short_after : length x.bytes < 4294967296
  short_after = few_bytes t L (suc r) (length x.bytes) (omega arith) file_there room_there

  count-after : block_count (records_after t r x) ≡ block_count t.block_records
  count-after = ap (λ (k : ℕ). k / 4) (length-resized t.block_records (suc r) (length_at t.file_records r) (length x.bytes))

  -- ---- the bytes of each file

  byte_same : (k : ℕ) → k < length x.bytes → byte_of (put t (file (suc r) x)) (suc r) k ≡ one x.bytes k
  unfolding byte_of put
  byte_same k h =
      let R' = records_after t r x in
      let b = block_of R' (suc r) (k / 512) in
      let once : how_many (block_count R') (λ b. holds R' (suc r) (k / 512) b) ≡ 1 = rw count-after (places-after.own (k / 512) (omega arith)) in
      let there : b < block_count R' = some_block R' (suc r) (k / 512) (omega arith) in
      let p = block_place R' (suc r) (k / 512) there in
      laid_own t.blocks R' (suc r) x.bytes b (k % 512) (omega (arith, count-after, L.lengths.blocks)) (omega arith) k
      (block_owner R' (suc r) (k / 512) there) (omega arith) h

  byte_other : (q : ℕ) → q ≢ r → (k : ℕ) → k < length_at t.file_records q → byte_of (put t (file (suc r) x)) (suc q) k ≡ byte_of t (suc q) k
  unfolding byte_of put file_length
  byte_other q d k h =
      let R = t.block_records in
      let R' = records_after t r x in
      let b = block_of R' (suc q) (k / 512) in
      let same : b ≡ block_of R (suc q) (k / 512) = block_same R R' (suc q) (k / 512) count-after (λ b l. places-after.others (suc q) (k / 512) b (omega arith) (omega arith) l) in
      let was : block_of R (suc q) (k / 512) < block_count R = block_there t L (suc q) (k / 512) (omega arith) in
      let there : b < block_count R' = omega (arith, count-after) in
      laid-other t.blocks R' (suc r) x.bytes b (k % 512) (omega (arith, count-after, L.lengths.blocks)) (omega arith)
      (rw (block_owner R' (suc q) (k / 512) there) (omega arith))
      ∙ ap (λ (c : ℕ). one t.blocks (512 * c + k % 512)) same

  -- ---- each file

  file-same : file_of (put t (file (suc r) x)) (suc r) ≡ x
  unfolding file_of put one
  file-same =
      let records = t.file_records in
      let n = length x.bytes in
      let k = kind-written records r x.kind x.depth n file_there in
      let d = depth-written records r x.kind x.depth n file_there in
      let e = length-written records r x.kind x.depth n file_there short_after in
      let b : list_of (length_at (with_record 8 records r (file_record x.kind x.depth n)) r) (λ k. byte_of (put t (file (suc r) x)) (suc r) k) ≡ x.bytes =
      rw e (is_list_of n (λ k. byte_of (put t (file (suc r) x)) (suc r) k) 0 x.bytes refl byte_same) in
      λ i. record { kind = k i; depth = d i; bytes = b i }

  file-other : (g : ℕ) → g ≢ suc r → file_of (put t (file (suc r) x)) g ≡ file_of t g
  unfolding file_of put
  file-other zero d = refl
  file-other (suc q) d =
      let records = t.file_records in
      let n = length x.bytes in
      let m : q ≢ r = omega arith in
      let k = kind_kept records r x.kind x.depth n q m in
      let p = depth_kept records r x.kind x.depth n q m in
      let e = length_kept records r x.kind x.depth n q m in
      let b : list_of (length_at (with_record 8 records r (file_record x.kind x.depth n)) q) (λ k. byte_of (put t (file (suc r) x)) (suc q) k)
      ≡ list_of (length_at records q) (λ k. byte_of t (suc q) k) =
      rw e (list_of_cong (length_at records q) (λ k. byte_of (put t (file (suc r) x)) (suc q) k) (λ k. byte_of t (suc q) k) (byte_other q m)) in
      λ i. record { kind = k i; depth = p i; bytes = b i }

  pub file-after : (g : ℕ) → file_of (put t (file (suc r) x)) g ≡ pick (eqb g (suc r)) x (file_of t g)
  file-after g =
      ⊎_elim
      (λ (s : g ≡ suc r). ap (file_of (put t (file (suc r) x))) s ∙ file-same ∙ sym (rw (eq-eqb g (suc r) s)))
      (λ (s : g ≢ suc r). file-other g s ∙ sym (rw (ne_eqb g (suc r) s)))
      (same_or_not g (suc r))

  -- ---- the store

  pub put-file : store_of (put t (file (suc r) x)) ≡ after (store_of t) (file (suc r) x)
  unfolding store_of put after channel_of
  put-file =
      let n : file_count (put t (file (suc r) x)).file_records ≡ file_count t.file_records =
      ap (λ (k : ℕ). k / 8) (length-with_record 8 t.file_records r (file_record x.kind x.depth (length x.bytes))) in
      λ i. record { block_count = count-after i; file_count = n i; channel_count = (store_of t).channel_count; file = fun_ext file-after i; channel = channel_of t }
