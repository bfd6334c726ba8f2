-- A change of a channel, made in the tables, is that change of the store, and leaves the layout sound.
use Prim.Native.Nat.{ℕ, zero, suc, ◌+◌, ◌*◌, ◌/◌, ◌<◌}
use Rattle.std.specs.Prelude.{◌≡◌, ◌≢◌, true, eqb}
use Rattle.std.proofs.Math.Path.{refl, ap, fun_ext}
use Rattle.std.proofs.Common.{sym, ◌∙◌, eq-eqb, ne_eqb}
use Rattle.std.proofs.Math.Logic.{inl, inr, ⊎_elim}
use Rattle.records.specs.Rows.{pick}
use Rattle.records.specs.Tests.{same_or_not}
use Rattle.records.specs.Numbers.{zeros}
use Rattle.records.specs.RecordLaws.{length-with_record}
use Rattle.meaning.specs.Store.{Channel, channel, after}
use Rattle.meaning.specs.Tables.{Tables, channel_count, channel_record, owner, store_of, file_of, byte_of, channel_of, put}
use Rattle.tables.specs.ReadBack.{file-written, position_written, channel_zeros-written, file_kept, position_kept, channel_zeros_kept}
use Rattle.layout.specs.Lengths.{same_lengths}
use Rattle.layout.specs.Layout.{Held, Layout}
use Rattle.layout.specs.Fits.{ChannelFits}

module _ (t : Tables) (c : ℕ) (y : Channel) (ok : ChannelFits (store_of t) c y) where
  channel_there : c < channel_count t.channel_records
  unfolding store_of
  channel_there = ok.below

  -- files are as they were
  files_kept : (f : ℕ) → file_of (put t (channel c y)) f ≡ file_of t f
  unfolding file_of byte_of put
  files_kept zero = refl
  files_kept (suc r) = refl

  channel_same : channel_of (put t (channel c y)) c ≡ y
  unfolding channel_of put
  channel_same =
      let f = file-written t.channel_records c y.file y.posn channel_there ok.small_file in
      let p = position_written t.channel_records c y.file y.posn channel_there ok.small_posn in
      λ i. record { file = f i; posn = p i }

  channel_other : (d : ℕ) → d ≢ c → channel_of (put t (channel c y)) d ≡ channel_of t d
  unfolding channel_of put
  channel_other d n =
      let f = file_kept t.channel_records c y.file y.posn d n in
      let p = position_kept t.channel_records c y.file y.posn d n in
      λ i. record { file = f i; posn = p i }

  pub channel_after : (d : ℕ) → channel_of (put t (channel c y)) d ≡ pick (eqb d c) y (channel_of t d)
  channel_after d =
      ⊎_elim
      (λ (s : d ≡ c). ap (channel_of (put t (channel c y))) s ∙ channel_same ∙ sym (rw (eq-eqb d c s)))
      (λ (s : d ≢ c). channel_other d s ∙ sym (rw (ne_eqb d c s)))
      (same_or_not d c)

  count_kept : channel_count (put t (channel c y)).channel_records ≡ channel_count t.channel_records
  unfolding put
  count_kept = ap (λ (k : ℕ). k / 8) (length-with_record 8 t.channel_records c (channel_record y.file y.posn))

  pub put_channel : store_of (put t (channel c y)) ≡ after (store_of t) (channel c y)
  unfolding store_of put after
  put_channel =
      λ i. record {
        block_count = (store_of t).block_count;
        file_count = (store_of t).file_count;
        channel_count = count_kept i;
        file = fun_ext files_kept i;
        channel = fun_ext channel_after i;
      }

  -- ---- the layout

  zeros_kept : Layout t → (d : ℕ) → d < channel_count t.channel_records → zeros (put t (channel c y)).channel_records (8 * d + 2) 2 ≡ true
  unfolding put
  zeros_kept L d h =
      ⊎_elim
      (λ (s : d ≡ c). rw s (channel_zeros-written t.channel_records c y.file y.posn channel_there))
      (λ (s : d ≢ c). channel_zeros_kept t.channel_records c y.file y.posn d s ∙ L.channel_zeros d h)
      (same_or_not d c)

  held_kept : (b : ℕ) → Held t b → Held (put t (channel c y)) b
  unfolding put
  held_kept b v =
      record { some_file = v.some_file; its_file = v.its_file; is_in_use = rw (files_kept (owner t.block_records b)) v.is_in_use; below = v.below }

  pub channel_layout : Layout t → Layout (put t (channel c y))
  unfolding put
  channel_layout L =
      record {
        lengths = same_lengths t (put t (channel c y)) refl refl refl (length-with_record 8 t.channel_records c (channel_record y.file y.posn)) L.lengths;
        file-zeros = L.file-zeros;
        channel_zeros = λ d h. zeros_kept L d (rw count_kept at h);
        rule = λ b h. ⊎_elim (λ e. inl e) (λ v. inr (held_kept b v)) (L.rule b h);
        exact = L.exact;
      }
