-- Changes made in the tables are the same changes of the store, and leave the layout sound.
use Rattle.std.specs.Prelude.{zero, suc, ◌≡◌, refl, List, [], ◌∷◌, true}
use Rattle.std.proofs.Common.{ap, sym, ◌∙◌, subst, arith}
use Rattle.records.specs.Tests.{and_both}
use Rattle.meaning.specs.Store.{Store, Change, file, channel, prepared, after, after_all}
use Rattle.meaning.specs.Tables.{Tables, store_of, put, put_all}
use Rattle.meaning.specs.Sound.{sound, layout_sound, well_formed}
use Rattle.layout.specs.Layout.{Layout, Holding, of_layout, sound_layout}
use Rattle.layout.specs.Fits.{Fits, FitsAll}
use Rattle.layout.proofs.PutFile.{put-file}
use Rattle.layout.proofs.PutLayout.{layout_after}
use Rattle.layout.proofs.PutChannel.{put_channel, channel_layout}
use Rattle.layout.specs.PutPrepared.{prepared_store, prepared_layout}

-- ---- one change

pub put_store : (t : Tables) → Layout t → (change : Change) → Fits (store_of t) change → store_of (put t change) ≡ after (store_of t) change
put_store t L (file zero x) ok = absurd (omega (arith, ok.from_one))
put_store t L (file (suc r) x) ok = put-file t L r x ok
put_store t L (channel c y) ok = put_channel t c y ok
put_store t L prepared ok = prepared_store t L.lengths

pub put_layout : (t : Tables) → Layout t → (change : Change) → Fits (store_of t) change → Layout (put t change)
put_layout t L (file zero x) ok = absurd (omega (arith, ok.from_one))
put_layout t L (file (suc r) x) ok = layout_after t L r x ok
put_layout t L (channel c y) ok = channel_layout t c y ok L
put_layout t L prepared ok = prepared_layout t L.lengths

-- ---- a row of changes

pub put_all_lem : (t : Tables) → Layout t → (changes : List Change) → FitsAll (store_of t) changes → Holding (put_all t changes) (after_all (store_of t) changes)
unfolding put_all after_all
put_all_lem t L [] ok = record { stored = refl; laid_out = L }
put_all_lem t L (change ∷ changes) ok =
    let e = put_store t L change ok.0 in
    let r = put_all_lem (put t change) (put_layout t L change ok.0) changes (subst (λ (s : Store). FitsAll s changes) (sym e) ok.1) in
    record { stored = r.stored ∙ ap (λ (s : Store). after_all s changes) e; laid_out = r.laid_out }

-- tables that hold a well formed store in a sound layout are sound
pub holding-sound : (t : Tables) (s : Store) → Holding t s → well_formed s ≡ true → sound t ≡ true
unfolding sound
holding-sound t s h w = and_both (layout_sound t) (well_formed (store_of t)) (of_layout t h.laid_out) (rw h.stored w)

-- so sound tables stay sound where the changes leave the store well formed
pub put-sound : (t : Tables) → sound t ≡ true → (changes : List Change) → FitsAll (store_of t) changes → well_formed (after_all (store_of t) changes) ≡ true
    → sound (put_all t changes) ≡ true
put-sound t e changes ok w =
    holding-sound (put_all t changes) (after_all (store_of t) changes) (put_all_lem t (sound_layout t e) changes ok) w
