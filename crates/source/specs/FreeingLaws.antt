-- What freeing leaves of files, channels and names; values of the partial functions that states are made of.
use Rattle.std.specs.Prelude.{◌≡◌, refl, ◌≢◌, ◌⊎◌}
use Rattle.std.proofs.Common.{ap, sym, ◌∙◌, inl, inr, ⊎_elim, eq-eqb, ne_eqb}
use Rattle.std.proofs.Math.Option.{Option, none, some, none-ne-some}
use Rattle.records.specs.Tests.{same_or_not}
use Rattle.source.specs.Sets.{◌⇸◌, ℙ, above}
use Rattle.source.specs.Files.{FID}
use Rattle.source.specs.Naming.{NAME, applied}
use Rattle.source.specs.Filing.{State, Used, by_name, FS, direncode}
use Rattle.source.specs.Departures.{Freeing, stays, goes, Replacing, nothing, something}
use Rattle.source.specs.View.{dirformat, RootFid}
use Rattle.source.specs.StateLaws.{value, used_same, freeing-names}

-- ---- values of sets and of partial functions

-- no value is none
pub clash : {B : Type 0} {o : Option B} (b : B) → o ≡ none → o ≡ some b → ⊥
clash b n s = none-ne-some b (sym n ∙ s)

pub set_value : {A : Type 0} {S T : ℙ A} → S ≡ T → (a : A) → S a ≡ T a
set_value e a = λ i. e i a

pub over_either : {B : Type 0} (lower upper : Option B) → (upper ≡ lower) ⊎ (upper ≡ none) → above lower upper ≡ lower
over_either lower none h = refl
over_either lower (some b) h = ⊎_elim (λ (e : some b ≡ lower). e) (λ (e : some b ≡ none). absurd (none-ne-some b (sym e))) h

pub applied-same : {A B : Type 0} (f g : A ⇸ B) (o : Option A) → ((a : A) → o ≡ some a → f a ≡ g a) → applied f o ≡ applied g o
applied-same f g none h = refl
applied-same f g (some a) h = h a refl

-- ---- what a step does to the file store

-- direncode loses no file
pub encode_keeps : (y y' : State) → direncode dirformat RootFid y y' → (f : FID) → y'.fstore f ≡ none → y.fstore f ≡ none
encode_keeps y y' h f gone =
    sym (h.others f (λ name is at. let (file, there) = h.change.after.used f (by_name name (value h.names.names name ∙ at)) in clash file gone there))
    ∙ gone

-- freeing changes no file that is referred to, and takes one at most
module _ (fid : FID) (y y' : State) where
  pub freeing_used : Freeing fid y y' → (f : FID) → Used y f → y'.fstore f ≡ y.fstore f
  freeing_used (stays u e) f v = ap (λ (z : State). z.fstore f) e
  freeing_used (goes h) f v =
      let other : f ≢ fid = λ (e : f ≡ fid). h.unused (rw e at v) in
      value h.file.destroys f ∙ rw (ne_eqb f fid other)

  pub freeing_takes : Freeing fid y y' → (f : FID) → y'.fstore f ≡ none → (y.fstore f ≡ none) ⊎ ((f ≡ fid) × (Used y fid → ⊥))
  freeing_takes (stays u e) f gone = inl (ap (λ (z : State). z.fstore f) (sym e) ∙ gone)
  freeing_takes (goes h) f gone =
      ⊎_elim
      (λ (e : f ≡ fid). inr (e, h.unused))
      (λ (other : f ≢ fid). inl (sym (value h.file.destroys f ∙ rw (ne_eqb f fid other)) ∙ gone))
      (same_or_not f fid)

  pub freeing-files : Freeing fid y y' → (f : FID) → (y'.fstore f ≡ y.fstore f) ⊎ (y'.fstore f ≡ none)
  freeing-files (stays u e) f = inl (ap (λ (z : State). z.fstore f) e)
  freeing-files (goes h) f =
      ⊎_elim
      (λ (e : f ≡ fid). inr (value h.file.destroys f ∙ rw (eq-eqb f fid e)))
      (λ (other : f ≢ fid). inl (value h.file.destroys f ∙ rw (ne_eqb f fid other)))
      (same_or_not f fid)

  pub freeing-channels : Freeing fid y y' → y'.cstore ≡ y.cstore
  freeing-channels (stays u e) = ap (λ (z : State). z.cstore) e
  freeing-channels (goes h) = h.channels

  pub freeing_filing : Freeing fid y y' → FS y → FS y'
  freeing_filing (stays u e) fs = rw e fs
  freeing_filing (goes h) fs = h.change.after

  -- what is referred to before is so afterwards, and the other way round
  pub freeing_still : Freeing fid y y' → (f : FID) → Used y f → Used y' f
  freeing_still h = used_same y' y (sym (freeing-channels h)) (sym (freeing-names fid y y' h).names)

  pub freeing-stayed : Freeing fid y y' → y'.fstore fid ≢ none → Used y fid
  freeing-stayed (stays u e) there = u
  freeing-stayed (goes h) there = absurd (there (value h.file.destroys fid ∙ rw (eq-eqb fid fid refl)))

-- the same of a replaced name
module _ (old : State) (name : NAME) (y y' : State) where
  pub replaced_takes : Replacing old name y y' → (f : FID) → y'.fstore f ≡ none → (y.fstore f ≡ none) ⊎ ((old.nstore name ≡ some f) × (Used y f → ⊥))
  replaced_takes (nothing gone e) f none_there = inl (ap (λ (z : State). z.fstore f) (sym e) ∙ none_there)
  replaced_takes (something fid at h) f none_there =
      ⊎_elim
      (λ (e : y.fstore f ≡ none). inl e)
      (λ (e : (f ≡ fid) × (Used y fid → ⊥)). inr (at ∙ ap some (sym e.0), λ u. e.1 (rw e.0 at u)))
      (freeing_takes fid y y' h f none_there)

  pub replaced_files : Replacing old name y y' → (f : FID) → (y'.fstore f ≡ y.fstore f) ⊎ (y'.fstore f ≡ none)
  replaced_files (nothing gone e) f = inl (ap (λ (z : State). z.fstore f) e)
  replaced_files (something fid at h) f = freeing-files fid y y' h f

  pub replaced_channels : Replacing old name y y' → y'.cstore ≡ y.cstore
  replaced_channels (nothing gone e) = ap (λ (z : State). z.cstore) e
  replaced_channels (something fid at h) = freeing-channels fid y y' h
