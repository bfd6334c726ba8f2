-- A change of a file leaves the layout sound.
use Rattle.std.specs.Prelude.{ℕ, suc, ◌+◌, ◌*◌, ◌/◌, ◌<◌, ◌≡◌, ◌≢◌, ◌⊎◌, true}
use Rattle.std.proofs.Math.Path.{refl, ap}
use Rattle.std.proofs.Common.{sym, ◌∙◌, inl, inr, arith, eq-eqb, ne_eqb}
use Rattle.std.proofs.Math.Logic.{⊎_elim}
use Rattle.std.proofs.Math.ListN.{length}
use Rattle.records.specs.Rows.{how_many}
use Rattle.records.specs.Tests.{same_or_not}
use Rattle.records.specs.RowLaws.{how_many_cong}
use Rattle.records.specs.Numbers.{zeros}
use Rattle.records.specs.RecordLaws.{length-with_record}
use Rattle.meaning.specs.File.{needed}
use Rattle.meaning.specs.Store.{File, file}
use Rattle.meaning.specs.Tables.{Tables, owner, block_count, file_count, holds, length_at, file_length, file_record, file_of, store_of, put}
use Rattle.tables.specs.ReadBack.{file-zeros-written, file-zeros_kept}
use Rattle.layout.specs.Laying.{length-laid}
use Rattle.layout.specs.Lengths.{Lengths, same_lengths}
use Rattle.layout.specs.Layout.{Free, Held, Layout, length-file, not_none}
use Rattle.layout.specs.Fits.{FileFits}
use Rattle.layout.specs.Resizing.{length-resized, Own, Other}
use Rattle.layout.proofs.PutFile.{records_after, places-after, file_there, file-after}

module _ (t : Tables) (L : Layout t) (r : ℕ) (x : File) (ok : FileFits (store_of t) (suc r) x) where
  pub lengths_after : Lengths (put t (file (suc r) x))
  unfolding put
  lengths_after =
      same_lengths t (put t (file (suc r) x))
      (length-laid t.blocks (records_after t r x) (suc r) x.bytes)
      (length-resized t.block_records (suc r) (length_at t.file_records r) (length x.bytes))
      (length-with_record 8 t.file_records r (file_record x.kind x.depth (length x.bytes)))
      refl L.lengths

  zeros-after : (q : ℕ) → q < file_count t.file_records → zeros (put t (file (suc r) x)).file_records (8 * q + 2) 2 ≡ true
  unfolding put
  zeros-after q h =
      let n = length x.bytes in
      ⊎_elim
      (λ (s : q ≡ r). rw s (file-zeros-written t.file_records r x.kind x.depth n (file_there t L r x ok)))
      (λ (d : q ≢ r). file-zeros_kept t.file_records r x.kind x.depth n q d ∙ L.file-zeros q h)
      (same_or_not q r)

  -- ---- lengths and kinds of files after the change

  own_file : file_of (put t (file (suc r) x)) (suc r) ≡ x
  own_file = file-after t L r x ok (suc r) ∙ rw (eq-eqb (suc r) (suc r) refl)

  other-file : (g : ℕ) → g ≢ suc r → file_of (put t (file (suc r) x)) g ≡ file_of t g
  other-file g d = file-after t L r x ok g ∙ rw (ne_eqb g (suc r) d)

  own_length : file_length (put t (file (suc r) x)).file_records (suc r) ≡ length x.bytes
  own_length = sym (length-file (put t (file (suc r) x)) (suc r)) ∙ ap (λ (x : File). length x.bytes) own_file

  other_length : (g : ℕ) → g ≢ suc r → file_length (put t (file (suc r) x)).file_records g ≡ file_length t.file_records g
  other_length g d =
      sym (length-file (put t (file (suc r) x)) g) ∙ ap (λ (x : File). length x.bytes) (other-file g d) ∙ length-file t g

  files-count : file_count (put t (file (suc r) x)).file_records ≡ file_count t.file_records
  unfolding put
  files-count = ap (λ (k : ℕ). k / 8) (length-with_record 8 t.file_records r (file_record x.kind x.depth (length x.bytes)))

  -- ---- the rule of block records

  held_own : (b : ℕ) → Own (suc r) (needed (length x.bytes)) (records_after t r x) b → Held (put t (file (suc r) x)) b
  unfolding put
  held_own b o =
      record {
        some_file = rw o.own_owner (omega arith);
        its_file = rw (o.own_owner, files-count) (file_there t L r x ok);
        is_in_use = rw (o.own_owner, own_file) (ok.used (omega (arith, o.own_place)));
        below = rw (o.own_owner, own_length) o.own_place;
      }

  held-other : (b : ℕ) → Other (suc r) t.block_records (records_after t r x) b → Held t b → Held (put t (file (suc r) x)) b
  unfolding put
  held-other b o v =
      let k = o.as_it_was in
      record {
        some_file = rw k.same-owner v.some_file;
        its_file = rw (k.same-owner, files-count) v.its_file;
        is_in_use = rw (k.same-owner, other-file (owner t.block_records b) o.not_own) v.is_in_use;
        below = rw (k.same-owner, k.same_place, other_length (owner t.block_records b) o.not_own) v.below;
      }

  rule-after : (b : ℕ) → b < block_count t.block_records → Free (records_after t r x) b ⊎ Held (put t (file (suc r) x)) b
  rule-after b h =
      ⊎_elim
      (λ e. inl e)
      (λ e. ⊎_elim
      (λ o. inr (held_own b o))
      (λ (o : Other (suc r) t.block_records (records_after t r x) b). ⊎_elim
      (λ (v : Free t.block_records b). inl (record { no_owner = o.as_it_was.same-owner ∙ v.no_owner; no_place = o.as_it_was.same_place ∙ v.no_place }))
      (λ v. inr (held-other b o v))
      (L.rule b h))
      e)
      ((places-after t L r x ok).each b h)

  -- ---- each place has exactly one block

  exact_after : (g j : ℕ) → j < needed (file_length (put t (file (suc r) x)).file_records g)
      → how_many (block_count t.block_records) (λ b. holds (records_after t r x) g j b) ≡ 1
  exact_after g j h =
      ⊎_elim
      (λ (s : g ≡ suc r). rw s ((places-after t L r x ok).own j (rw (s, own_length) at h)))
      (λ (d : g ≢ suc r).
      let z : g ≢ 0 = not_none (put t (file (suc r) x)).file_records g j h in
      how_many_cong (block_count t.block_records) (λ b. holds (records_after t r x) g j b) (λ b. holds t.block_records g j b)
      (λ b l. (places-after t L r x ok).others g j b z d l)
      ∙ L.exact g j (rw (other_length g d) at h))
      (same_or_not g (suc r))

  pub layout_after : Layout (put t (file (suc r) x))
  unfolding put
  layout_after =
      let count : block_count (records_after t r x) ≡ block_count t.block_records =
      ap (λ (k : ℕ). k / 4) (length-resized t.block_records (suc r) (length_at t.file_records r) (length x.bytes)) in
      record {
        lengths = lengths_after;
        file-zeros = λ q h. zeros-after q (rw files-count at h);
        channel_zeros = L.channel_zeros;
        rule = λ b h. rule-after b (rw count at h);
        exact = λ g j h. rw count (exact_after g j h);
      }
