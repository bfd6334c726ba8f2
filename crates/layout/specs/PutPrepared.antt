-- A prepared store: all records zero but file 1, an empty directory. It asks only that the table lengths agree.
use Prim.Native.Nat.{ℕ, zero, suc, ◌+◌, ◌*◌, ◌/◌, ◌≤◌, ◌<◌}
use Rattle.std.specs.Prelude.{◌≡◌, ◌≢◌, [], Bool, true, false, length, eqb}
use Rattle.std.proofs.Math.Path.{refl, ap, fun_ext}
use Rattle.std.proofs.Common.{sym, ◌∙◌, arith, ne_eqb}
use Rattle.std.proofs.Math.Logic.{inl, ⊎_elim}
use Rattle.std.proofs.lemmas.List.{length-replicate}
use Rattle.std.proofs.Math.ListN.{get_or-replicate, get_or-eq_default}
use Rattle.records.specs.Rows.{pick, list_of, list_from}
use Rattle.records.specs.Tests.{same_or_not, lt_or_ge}
use Rattle.records.specs.Numbers.{one, two, four, zeros}
use Rattle.records.specs.NumberLaws.{zero_zeros}
use Rattle.records.specs.RecordLaws.{length-with_record}
use Rattle.meaning.specs.File.{zero_bytes}
use Rattle.meaning.specs.Store.{File, prepared, after, root, directory, no_file, no_channel}
use Rattle.meaning.specs.Tables.{Tables, store_of, file_of, byte_of, channel_of, file_count, owner, place, kind_at, depth_at, length_at, file_length, file_record, channel_file_at, position_at, put}
use Rattle.meaning.specs.Sound.{lengths_agree}
use Rattle.tables.specs.ReadBack.{kind-written, depth-written, length-written, file-zeros-written, kind_kept, depth_kept, length_kept, file-zeros_kept}
use Rattle.layout.specs.Lengths.{Lengths, lengths_agree_lem, same_lengths}
use Rattle.layout.specs.Layout.{Free, Layout, Holding, length-file}

-- ---- n bytes, all zero

module _ (n : ℕ) where
  pub length_blank : length (zero_bytes n) ≡ n
  length_blank = length-replicate n 0

  pub one_blank : (at : ℕ) → one (zero_bytes n) at ≡ 0
  unfolding one
  one_blank at =
      ⊎_elim
      (λ (h : at < n). get_or-replicate n at 0 0 h)
      (λ (h : n ≤ at). get_or-eq_default (zero_bytes n) 0 (omega (arith, length_blank)))
      (lt_or_ge at n)

  pub two_blank : (at : ℕ) → two (zero_bytes n) at ≡ 0
  unfolding two
  two_blank at = omega (arith, one_blank at, one_blank (at + 1))

  pub four_blank : (at : ℕ) → four (zero_bytes n) at ≡ 0
  unfolding four
  four_blank at = omega (arith, two_blank at, two_blank (at + 2))

  pub zeros_blank : (at m : ℕ) → zeros (zero_bytes n) at m ≡ true
  unfolding one
  zeros_blank at m = zero_zeros (zero_bytes n) at m (λ i h. one_blank (at + i))

module _ (t : Tables) (L : Lengths t) where
  -- file 1's record is there
  root_there : 0 < file_count (zero_bytes (length t.file_records))
  root_there = rw (length_blank (length t.file_records)) (omega (arith, L.some_files))

  -- ---- each file, each channel

  file_prepared : (f : ℕ) → file_of (put t prepared) f ≡ pick (eqb f root) (directory 0 []) no_file
  unfolding file_of put kind_at depth_at length_at list_of list_from
  file_prepared zero = refl
  file_prepared (suc r) =
      let Z = zero_bytes (length t.file_records) in
      ⊎_elim
      (λ (s : r ≡ 0).
      let k = kind-written Z 0 2 0 0 root_there in
      let d = depth-written Z 0 2 0 0 root_there in
      let n = length-written Z 0 2 0 0 root_there (omega arith) in
      rw s (λ i. record { kind = k i; depth = d i; bytes = ap (λ (m : ℕ). list_of m (λ k. byte_of (put t prepared) 1 k)) n i }))
      (λ (s : r ≢ 0).
      let k = kind_kept Z 0 2 0 0 r s ∙ one_blank (length t.file_records) (8 * r) in
      let d = depth_kept Z 0 2 0 0 r s ∙ one_blank (length t.file_records) (8 * r + 1) in
      let n = length_kept Z 0 2 0 0 r s ∙ four_blank (length t.file_records) (8 * r + 4) in
      rw (ne_eqb (suc r) 1 (omega arith)) (λ i. record { kind = k i; depth = d i; bytes = ap (λ (m : ℕ). list_of m (λ k. byte_of (put t prepared) (suc r) k)) n i }))
      (same_or_not r 0)

  channel_prepared : (c : ℕ) → channel_of (put t prepared) c ≡ no_channel
  unfolding channel_of put channel_file_at position_at
  channel_prepared c =
      let f = two_blank (length t.channel_records) (8 * c) in
      let p = four_blank (length t.channel_records) (8 * c + 4) in
      λ i. record { file = f i; posn = p i }

  -- ---- the store

  files-length : length (put t prepared).file_records ≡ length t.file_records
  unfolding put
  files-length = length-with_record 8 (zero_bytes (length t.file_records)) 0 (file_record 2 0 0) ∙ length_blank (length t.file_records)

  pub prepared_store : store_of (put t prepared) ≡ after (store_of t) prepared
  unfolding store_of put after
  prepared_store =
      λ i. record {
        block_count = length_blank (length t.block_records) i / 4;
        file_count = files-length i / 8;
        channel_count = length_blank (length t.channel_records) i / 8;
        file = fun_ext file_prepared i;
        channel = fun_ext channel_prepared i;
      }

  -- ---- the layout

  lengths_prepared : Lengths (put t prepared)
  unfolding put
  lengths_prepared =
      same_lengths t (put t prepared) refl (length_blank (length t.block_records)) files-length (length_blank (length t.channel_records)) L

  no_bytes : (f : ℕ) → file_length (put t prepared).file_records f ≡ 0
  no_bytes f = sym (length-file (put t prepared) f) ∙ ap (λ (x : File). length x.bytes) (file_prepared f) ∙ go (eqb f root)
    where
      go : (e : Bool) → length (pick e (directory 0 []) no_file).bytes ≡ 0
      go true = refl
      go false = refl

  zeros_prepared : (r : ℕ) → zeros (put t prepared).file_records (8 * r + 2) 2 ≡ true
  unfolding put
  zeros_prepared r =
      let Z = zero_bytes (length t.file_records) in
      ⊎_elim
      (λ (s : r ≡ 0). rw s (file-zeros-written Z 0 2 0 0 root_there))
      (λ (s : r ≢ 0). file-zeros_kept Z 0 2 0 0 r s ∙ zeros_blank (length t.file_records) (8 * r + 2) 2)
      (same_or_not r 0)

  free_prepared : (b : ℕ) → Free (put t prepared).block_records b
  unfolding put owner place
  free_prepared b =
      record { no_owner = two_blank (length t.block_records) (4 * b); no_place = two_blank (length t.block_records) (4 * b + 2) }

  pub prepared_layout : Layout (put t prepared)
  unfolding put
  prepared_layout =
      record {
        lengths = lengths_prepared;
        file-zeros = λ r h. zeros_prepared r;
        channel_zeros = λ c h. zeros_blank (length t.channel_records) (8 * c + 2) 2;
        rule = λ b h. inl (free_prepared b);
        exact = λ f i h. absurd (omega (arith, no_bytes f));
      }

-- prepare asks for no sound store
pub put_prepared : (t : Tables) → lengths_agree t ≡ true → Holding (put t prepared) (after (store_of t) prepared)
put_prepared t e = let L = lengths_agree_lem t e in record { stored = prepared_store t L; laid_out = prepared_layout t L }
