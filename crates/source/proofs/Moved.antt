-- A move by link and unlink is the source's moveFS, and then the freeing of what the new name stood for (4.3.14).
-- The state between the two has every file: those of the state that move leaves, and of the file that is gone what it was.
use Rattle.std.specs.Prelude.{ℕ, ◌≡◌, refl, ◌≢◌, ◌⊎◌, List, [], true}
use Rattle.std.proofs.Common.{ap, sym, ◌∙◌, inl, inr, ⊎_elim}
use Rattle.std.proofs.Math.Path.{fun_ext}
use Rattle.std.proofs.Math.Option.{Option, none, some, some-injective}
use Rattle.meaning.specs.Store.{front, last}
use Rattle.source.specs.Sets.{◌∈dom◌, above, ◌⊕◌, ◌⟼◌, the_name}
use Rattle.source.specs.Files.{FID}
use Rattle.source.specs.Naming.{NAME, applied, dirstored}
use Rattle.source.specs.Filing.{State, Used, by_name, by_channel, FS, destroyFS}
use Rattle.source.specs.Departures.{Freeing, stays, goes, Replacing, nothing, something, Linking, Unlinking, moveFS, Moved}
use Rattle.source.specs.View.{dirformat, RootFid}
use Rattle.source.specs.ViewLaws.{same-name, removed}
use Rattle.source.specs.StateLaws.{value, over_value, without_value, used_same, freeing-names, replacing-names}
use Rattle.source.specs.FreeingLaws.{clash, set_value, over_either, applied-same, freeing_used, freeing-files, replaced_files}
use Rattle.source.proofs.MoveSteps.{Steps, stepped}

module _ (oldname newname : NAME) (x x' : State) (steps : Steps oldname newname x x') where
  open steps use {a, b, c, given, encodes, replaces, fid, taken, encodes', frees, same}
  open stepped oldname newname x x' steps use {before, after, was, names, unlinked, other_name, channels, lost, kept_used}

  -- ---- the state with the names moved, and the state whose directories' files hold them: no file is gone

  abbrev mid : State
  mid = record { fstore = x.fstore; cstore = x.cstore; nstore = x'.nstore; dnames = x'.dnames }

  abbrev whole : State
  whole = record { fstore = x.fstore ⊕ x'.fstore; cstore = x.cstore; nstore = x'.nstore; dnames = x'.dnames }

  mid_used : (f : FID) → Used mid f → f ∈dom x.fstore
  mid_used f (by_name name e) =
      ⊎_elim
      (λ (new : (the_name newname name ≡ true) × (f ≡ fid)). rw new.1 (before.used fid (by_name oldname was)))
      (λ (old : x.nstore name ≡ some f). before.used f (by_name name old))
      (over_value x.nstore (the_name newname) fid name f
      (without_value (x.nstore ⊕ the_name newname ⟼ fid) (the_name oldname) name f (sym (value names name) ∙ e)))
  mid_used f (by_channel cid chan e its) = before.used f (by_channel cid chan e its)

  mid_filing : FS mid
  mid_filing = record { names = after.names; used = mid_used }

  whole_here : (f : FID) → f ∈dom x'.fstore → whole.fstore f ≡ x'.fstore f
  whole_here f (file, e) = rw e

  whole_filing : FS whole
  whole_filing =
      record {
        names = after.names;
        used = λ f u.
            let there = after.used f (used_same x' whole (sym channels) refl f u) in
            (there.0, whole_here f there ∙ there.1);
      }

  -- files that are no directory's are as they were
  directory-other : (name : NAME) → x'.dnames name ≡ true → name ≢ oldname
  directory-other name dir q =
      let (f, e) = encodes'.stored.directories name (sym (set_value (freeing-names fid c x' frees).directories name) ∙ dir) in
      clash f (value unlinked name ∙ rw (q, same-name oldname)) e

  plain_same : (f : FID) → ((name : NAME) → x'.dnames name ≡ true → x'.nstore name ≡ some f → ⊥) → (x'.fstore f ≡ x.fstore f) ⊎ (x'.fstore f ≡ none)
  plain_same f not-one =
      let left = freeing-names fid c x' frees in
      let from-c : c.fstore f ≡ b.fstore f =
      encodes'.others f (λ name dir e. not-one name
      (set_value (left.directories ∙ encodes'.names.directories) name ∙ dir)
      (value (left.names ∙ encodes'.names.names) name ∙ e)) ∙ value taken.files f in
      let from-a : a.fstore f ≡ x.fstore f =
      encodes.others f (λ name dir e.
      let dir' = set_value (same ∙ (replacing-names x newname a b replaces).directories ∙ encodes.names.directories) name ∙ dir in
      not-one name dir' (value left.names name ∙ other_name name (directory-other name dir') ∙ value encodes.names.names name ∙ e)) ∙ value given.files f in
      ⊎_elim
      (λ (e : x'.fstore f ≡ c.fstore f). ⊎_elim
      (λ (h : b.fstore f ≡ a.fstore f). inl (e ∙ from-c ∙ h ∙ from-a))
      (λ (h : b.fstore f ≡ none). inr (e ∙ from-c ∙ h))
      (replaced_files x newname a b replaces f))
      (λ (e : x'.fstore f ≡ none). inr e)
      (freeing-files fid c x' frees f)

  others : (f : FID) → ((name : NAME) → x'.dnames name ≡ true → x'.nstore name ≡ some f → ⊥) → whole.fstore f ≡ x.fstore f
  others f not-one = over_either (x.fstore f) (x'.fstore f) (plain_same f not-one)

  -- a file that is named holds what it holds where the names are encoded
  named-same : (f : FID) (name : NAME) → c.nstore name ≡ some f → c.fstore f ≡ whole.fstore f
  named-same f name e =
      let left = freeing-names fid c x' frees in
      sym (freeing_used fid c x' frees f (by_name name e)) ∙ sym (whole_here f (after.used f (by_name name (value left.names name ∙ e))))

  stored : dirstored dirformat RootFid whole.fstore whole.nstore whole.dnames
  stored =
      let left = freeing-names fid c x' frees in
      record {
        directories = λ name dir.
            let (f, e) = encodes'.stored.directories name (sym (set_value left.directories name) ∙ dir) in
            (f, value left.names name ∙ e);
        files = λ name f e. whole_filing.used f (by_name name e);
        rule = λ name more (f, e).
            value left.names name
            ∙ encodes'.stored.rule name more (f, sym (value left.names name) ∙ e)
            ∙ ap (applied (λ dir. dirformat dir (last name))) (applied-same c.fstore whole.fstore (c.nstore (front name)) (λ d at. named-same d (front name) at))
            ∙ ap (λ o. applied (λ dir. dirformat dir (last name)) (applied whole.fstore o)) (sym (value left.names (front name)));
        top = value left.names [] ∙ encodes'.stored.top;
      }

  moves_whole : moveFS oldname newname x whole
  moves_whole = (
    mid,
    record {
      change = record { before = before; after = mid_filing };
      files = refl;
      channels = refl;
      fid = fid;
      names = record { is = was; moves = names };
    },
    record {
      change = record { before = mid_filing; after = whole_filing };
      channels = refl;
      names = record { names = refl; directories = refl };
      stored = stored;
      others = others;
    },
  )

  -- ---- and then what is gone

  whole_there : (f : FID) → (x'.fstore f ≡ none → x.fstore f ≡ none) → x'.fstore f ≡ whole.fstore f
  whole_there f kept = go (x'.fstore f) kept
    where
      go : (o : Option (List ℕ)) → (o ≡ none → x.fstore f ≡ none) → o ≡ above (x.fstore f) o
      go none kept = sym (kept refl)
      go (some file) kept = refl

  -- no file is gone
  whole_same : ((f : FID) → x'.fstore f ≡ none → x.fstore f ≡ none) → x' ≡ whole
  whole_same kept =
      let files : x'.fstore ≡ whole.fstore = fun_ext (λ f. whole_there f (kept f)) in
      λ i. record { fstore = files i; cstore = channels i; nstore = x'.nstore; dnames = x'.dnames }

  then_frees : Replacing x newname whole x'
  then_frees = by_name_store (x.nstore newname) refl
    where
      destroys : (g : FID) → x.nstore newname ≡ some g → x'.fstore g ≡ none → destroyFS g whole x'
      destroys g at gone =
          let there : g ∈dom x.fstore = before.used g (by_name newname at) in
          let elsewhere : (f : FID) → f ≢ g → x'.fstore f ≡ none → x.fstore f ≡ none =
          λ f o e. ⊎_elim (λ (h : x.fstore f ≡ none). h) (λ (h : x.nstore newname ≡ some f). absurd (o (some-injective f g (sym h ∙ at)))) (lost f e) in
          record {
            change = record { before = whole_filing; after = after };
            file = record {
              exists = (there.0, rw gone there.1);
              destroys = removed whole.fstore x'.fstore g (λ f o. whole_there f (elsewhere f o)) gone;
            };
            channels = channels;
            names = record { names = refl; directories = refl };
            unused = λ u. let (file, e) = after.used g (used_same x' whole (sym channels) refl g u) in clash file gone e;
          }

      by_file_store : (g : FID) → x.nstore newname ≡ some g → (o : Option (List ℕ)) → x'.fstore g ≡ o → Freeing g whole x'
      by_file_store g at none gone = goes (destroys g at gone)
      by_file_store g at (some file) there =
          stays
          (used_same whole x' channels refl g (kept_used g at (λ e. clash file e there)))
          (whole_same (λ f e. ⊎_elim (λ (h : x.fstore f ≡ none). h)
          (λ (h : x.nstore newname ≡ some f). absurd (clash file (ap x'.fstore (some-injective g f (sym at ∙ h)) ∙ e) there)) (lost f e)))

      by_name_store : (o : Option FID) → x.nstore newname ≡ o → Replacing x newname whole x'
      by_name_store none e =
          nothing e (whole_same (λ f gone. ⊎_elim (λ (h : x.fstore f ≡ none). h) (λ (h : x.nstore newname ≡ some f). absurd (clash f e h)) (lost f gone)))
      by_name_store (some g) e = something g e (by_file_store g e (x'.fstore g) refl)

  moved : Moved oldname newname x x'
  moved =
      record {
        moves = (whole, moves_whole, then_frees);
        itself = λ used. rw (whole_same (λ f gone. ⊎_elim (λ (h : x.fstore f ≡ none). h)
            (λ (h : x.nstore newname ≡ some f). let (file, e) = after.used f (used f h) in absurd (clash file gone e)) (lost f gone))) moves_whole;
        not_itself = not_moveFS;
        gone = value names oldname ∙ rw (same-name oldname);
      }
    where
      not_moveFS : (g : FID) → x.nstore newname ≡ some g → (Used x' g → ⊥) → moveFS oldname newname x x' → ⊥
      not_moveFS g at unused (k, first, second) =
          let (file, there) = before.used g (by_name newname at) in
          let stays-there : x'.fstore g ≡ some file =
          second.others g (λ name dir e. unused (by_name name (value second.names.names name ∙ e))) ∙ value first.files g ∙ there in
          unused (kept_used g at (λ e. clash file e stays-there))

pub move_is : (x b x' : State) (oldname newname : NAME) → Linking oldname newname x b → Unlinking oldname b x' → x'.dnames ≡ b.dnames
    → Moved oldname newname x x'
move_is x b x' oldname newname (a, (a₀, given, encodes), replaces) h same =
    let (c, (c₀, taken, encodes'), frees) = h.unlinks in
    moved oldname newname x x' (record {
      a₀ = a₀;
      a = a;
      b = b;
      c₀ = c₀;
      c = c;
      given = given;
      encodes = encodes;
      replaces = replaces;
      fid = h.fid;
      is = h.is;
      taken = taken;
      encodes' = encodes';
      frees = frees;
      same = same;
    })
