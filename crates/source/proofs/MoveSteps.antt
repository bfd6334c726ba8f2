-- A move step by step: link with its freeing, then unlink with its own. What the names are then, and which file is gone.
use Rattle.std.specs.Prelude.{◌≡◌, refl, ◌≢◌, ◌⊎◌, true}
use Rattle.std.proofs.Common.{ap, sym, ◌∙◌, inl, inr, ⊎_elim, eq-eqb}
use Rattle.std.proofs.Math.Option.{none, some, some-injective}
use Rattle.records.specs.Tests.{not_so}
use Rattle.source.specs.Sets.{◌⊕◌, ◌⩤◌, ◌⟼◌, same_name, the_name}
use Rattle.source.specs.Files.{FID}
use Rattle.source.specs.Naming.{NAME}
use Rattle.source.specs.Filing.{State, Used, by_name, by_channel, FS, direncode, linkFS0, unlinkFS0}
use Rattle.source.specs.Departures.{Freeing, stays, goes, Replacing, nothing, something}
use Rattle.source.specs.View.{dirformat, RootFid}
use Rattle.source.specs.ViewLaws.{name-same, same-name, same-name_or_not}
use Rattle.source.specs.StateLaws.{value, over_value, over_here, without_value, freeing-names, replacing-names}
use Rattle.source.specs.FreeingLaws.{clash, encode_keeps, freeing_takes, freeing-files, freeing-channels, freeing_filing, freeing_still, freeing-stayed, replaced_takes, replaced_channels}

-- from x by link to b, where a is linked and not yet freed; from b by unlink to x', where c is unlinked and not yet freed;
-- in a₀ and c₀ the names are not yet encoded. No name of a directory comes or goes
pub record Steps (oldname newname : NAME) (x x' : State) : Type 0 where
  pub a₀ : State
  pub a : State
  pub b : State
  pub c₀ : State
  pub c : State
  pub given : linkFS0 oldname newname x a₀
  pub encodes : direncode dirformat RootFid a₀ a
  pub replaces : Replacing x newname a b
  pub fid : FID
  pub is : b.nstore oldname ≡ some fid
  pub taken : unlinkFS0 oldname b c₀
  pub encodes' : direncode dirformat RootFid c₀ c
  pub frees : Freeing fid c x'
  pub same : x'.dnames ≡ b.dnames

-- what follows of the names, and of the file that the old name stood for
pub record Stepped (oldname newname : NAME) (x x' : State) (steps : Steps oldname newname x x') : Type 0 where
  pub before : FS x
  pub after : FS x'
  pub was : x.nstore oldname ≡ some steps.fid
  pub names : x'.nstore ≡ the_name oldname ⩤ (x.nstore ⊕ the_name newname ⟼ steps.fid)
  pub unlinked : steps.c.nstore ≡ the_name oldname ⩤ steps.b.nstore
  pub other_name : (name : NAME) → name ≢ oldname → steps.c.nstore name ≡ steps.a.nstore name
  pub channels : x'.cstore ≡ x.cstore
  -- a file that is gone is what the new name stood for, and one that is not gone is referred to
  pub lost : (f : FID) → x'.fstore f ≡ none → (x.fstore f ≡ none) ⊎ (x.nstore newname ≡ some f)
  pub kept_used : (g : FID) → x.nstore newname ≡ some g → x'.fstore g ≢ none → Used x' g

module _ (oldname newname : NAME) (x x' : State) (steps : Steps oldname newname x x') where
  open steps use {a₀, a, b, c₀, c, given, encodes, replaces, fid, is, taken, encodes', frees, same}

  -- ---- names

  b-names : b.nstore ≡ a.nstore
  b-names = (replacing-names x newname a b replaces).names

  -- the file that the old name stood for
  was : x.nstore oldname ≡ some fid
  was =
      ⊎_elim
      (λ (new : (the_name newname oldname ≡ true) × (fid ≡ given.fid)). given.names.is ∙ ap some (sym new.1))
      (λ (old : x.nstore oldname ≡ some fid). old)
      (over_value x.nstore (the_name newname) given.fid oldname fid (sym (value (b-names ∙ encodes.names.names ∙ given.names.links) oldname) ∙ is))

  a-names : a.nstore ≡ x.nstore ⊕ the_name newname ⟼ fid
  a-names =
      encodes.names.names ∙ given.names.links
      ∙ ap (λ (f : FID). x.nstore ⊕ the_name newname ⟼ f) (some-injective given.fid fid (sym given.names.is ∙ was))

  c-names : c.nstore ≡ the_name oldname ⩤ b.nstore
  c-names = encodes'.names.names ∙ taken.names.destroys

  x'-names : x'.nstore ≡ the_name oldname ⩤ (x.nstore ⊕ the_name newname ⟼ fid)
  x'-names = (freeing-names fid c x' frees).names ∙ c-names ∙ ap (λ n. the_name oldname ⩤ n) (b-names ∙ a-names)

  new_there : a.nstore newname ≡ some fid
  new_there = value a-names newname ∙ over_here x.nstore (the_name newname) fid newname (same-name newname)

  -- a name but the old one
  other_name : (name : NAME) → name ≢ oldname → c.nstore name ≡ a.nstore name
  other_name name apart =
      value c-names name ∙ rw (not_so (same_name name oldname) (λ e. apart (name-same name oldname e))) (value b-names name)

  c-channels : c.cstore ≡ a.cstore
  c-channels = encodes'.channels ∙ taken.channels ∙ replaced_channels x newname a b replaces

  -- what is referred to still is, where the two names are two
  used_on : oldname ≢ newname → (g : FID) → Used a g → Used c g
  used_on apart g (by_name name e) =
      ⊎_elim
      (λ (q : name ≡ oldname).
      let its : g ≡ fid = some-injective g fid (sym e ∙ ap a.nstore q ∙ sym (value b-names oldname) ∙ is) in
      by_name newname (other_name newname (λ r. apart (sym r)) ∙ new_there ∙ ap some (sym its)))
      (λ (o : name ≢ oldname). by_name name (other_name name o ∙ e))
      (same-name_or_not name oldname)
  used_on apart g (by_channel cid chan e its) = by_channel cid chan (value c-channels cid ∙ e) its

  -- ---- files

  fs : FS x
  fs = given.change.before

  fs' : FS x'
  fs' = freeing_filing fid c x' frees encodes'.change.after

  -- a file that is gone is what the new name stood for
  lost : (f : FID) → x'.fstore f ≡ none → (x.fstore f ≡ none) ⊎ (x.nstore newname ≡ some f)
  lost f gone =
      ⊎_elim
      (λ (e : c.fstore f ≡ none). ⊎_elim
      (λ (h : a.fstore f ≡ none). inl (sym (value given.files f) ∙ encode_keeps a₀ a encodes f h))
      (λ (h : (x.nstore newname ≡ some f) × (Used a f → ⊥)). inr h.0)
      (replaced_takes x newname a b replaces f (sym (value taken.files f) ∙ encode_keeps c₀ c encodes' f e)))
      (λ (h : (f ≡ fid) × (Used c fid → ⊥)). ⊎_elim
      (λ (q : oldname ≡ newname). inr (ap x.nstore (sym q) ∙ was ∙ ap some (sym h.0)))
      (λ (apart : oldname ≢ newname). absurd (h.1 (by_name newname (other_name newname (λ r. apart (sym r)) ∙ new_there))))
      (same-name_or_not oldname newname))
      (freeing_takes fid c x' frees f gone)

  -- and one that is not gone is referred to
  kept_used : (g : FID) → x.nstore newname ≡ some g → x'.fstore g ≢ none → Used x' g
  kept_used g at there = go replaces
    where
      once_more : oldname ≡ newname → Used x' g
      once_more q =
          let its : fid ≡ g = some-injective fid g (sym was ∙ ap x.nstore q ∙ at) in
          rw its at (freeing_still fid c x' frees fid (freeing-stayed fid c x' frees (λ e. there (ap x'.fstore (sym its) ∙ e))))

      by_freeing : Freeing g a b → Used x' g
      by_freeing (stays u e) =
          ⊎_elim once_more (λ (apart : oldname ≢ newname). freeing_still fid c x' frees g (used_on apart g u)) (same-name_or_not oldname newname)
      by_freeing (goes h) =
          let b-gone : b.fstore g ≡ none = value h.file.destroys g ∙ rw (eq-eqb g g refl) in
          let unnamed : (name : NAME) → c₀.dnames name ≡ true → c₀.nstore name ≡ some g → ⊥ =
          λ name dir e.
          let (file, its) = h.change.after.used g (by_name name (without_value b.nstore (the_name oldname) name g (sym (value taken.names.destroys name) ∙ e))) in
          clash file b-gone its in
          let c-gone : c.fstore g ≡ none = encodes'.others g unnamed ∙ value taken.files g ∙ b-gone in
          absurd (there (⊎_elim (λ (e : x'.fstore g ≡ c.fstore g). e ∙ c-gone) (λ (e : x'.fstore g ≡ none). e) (freeing-files fid c x' frees g)))

      go : Replacing x newname a b → Used x' g
      go (nothing gone e) = absurd (clash g gone at)
      go (something g' at' h) = by_freeing (rw (some-injective g' g (sym at' ∙ at)) at h)

  pub stepped : Stepped oldname newname x x' steps
  stepped =
      record {
        before = fs;
        after = fs';
        was = was;
        names = x'-names;
        unlinked = c-names;
        other_name = other_name;
        channels = freeing-channels fid c x' frees ∙ c-channels ∙ encodes.channels ∙ given.channels;
        lost = lost;
        kept_used = kept_used;
      }
