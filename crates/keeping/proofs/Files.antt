-- An ordinary file written; a file made, that has still to get its name; a file freed; a file let go where nothing refers to it.
use Rattle.std.specs.Prelude.{ℕ, ◌≤◌, ◌<◌, ◌≡◌, ◌≢◌, ◌⊎◌, List, [], ◌∷◌, Bool, length}
use Rattle.std.proofs.Math.Path.{refl}
use Rattle.std.proofs.Common.{ap, sym, ◌∙◌, true≢false, arith}
use Rattle.std.proofs.Math.Logic.{inl, inr, ⊎_elim}
use Rattle.std.proofs.Math.Bool.{true, false}
use Rattle.records.specs.Rows.{pick}
use Rattle.records.specs.Tests.{tested, same_or_not, not_so}
use Rattle.meaning.specs.File.{longest}
use Rattle.meaning.specs.Store.{Store, File, file, after, no_file, ordinary, root, in_use, is_directory, names, held, is_orphan, let_go}
use Rattle.soundness.specs.Use.{used, directory-kind, not_directory}
use Rattle.soundness.specs.Well.{FileForm, as_free_lem, as_ordinary_lem, Well}
use Rattle.soundness.specs.WellFacts.{root-directory, form-ordinary}
use Rattle.layout.specs.Fits.{FitsAll}
use Rattle.trees.specs.AfterFile.{file_changed, held-file}
use Rattle.trees.proofs.LetGo.{Orphan, orphan, let_going_lem}
use Rattle.keeping.specs.Shape.{Shape, Counted, shape, counted, well_again, count_in}
use Rattle.keeping.specs.References.{unused_unnamed}
use Rattle.keeping.specs.Sure.{Sure, smaller_fits}
use Rattle.keeping.specs.FileStep.{Refiled}
use Rattle.keeping.proofs.FileStep.{shape_file, names-file, counted-file}

-- ---- an ordinary file's bytes

module _ (s : Store) (w : Well s) (f : ℕ) (bytes : List ℕ) where
  module _ (is_in_use : in_use s f ≡ true) (plain : is_directory s f ≡ false) (size : length bytes ≤ longest) where
    refiled : Refiled s f (ordinary bytes)
    refiled =
        let u = used s f is_in_use in
        record {
          from_one = u.some;
          to_last = u.within;
          not_root = λ e. true≢false (sym (root-directory s w (omega (arith, u.some, u.within))) ∙ ap (is_directory s) (sym e) ∙ plain);
          form = as_ordinary_lem (record { kind = refl; depth = refl; size = size });
          deep = λ k. absurd (omega arith);
          was_empty = λ is. absurd (true≢false (sym is ∙ plain));
          is_empty_lem = λ k. absurd (omega arith);
          unnamed = λ o. absurd (o refl);
          unheld = λ k. absurd (omega arith);
        }

    pub rewritten_well : Well (after s (file f (ordinary bytes)))
    rewritten_well =
        let s' = after s (file f (ordinary bytes)) in
        let u = used s f is_in_use in
        well_again s' (shape_file s f (ordinary bytes) refiled (shape s w))
        (count_in s' f (counted-file s f (ordinary bytes) refiled (counted s w f))
        (λ is other. absurd (omega (arith, directory-kind s' f is, ap (λ (x : File). x.kind) (file_changed s f (ordinary bytes)))))
        (λ is isnt. ⊎_elim
        (λ (m : 0 < names s f). inl (omega (arith, names-file s f (ordinary bytes) refiled f (omega (arith, u.some)))))
        (λ (m : held s f ≡ true). inr (held-file s f (ordinary bytes) f ∙ m))
        (w.kept f is_in_use plain)))

-- ---- a file made where there was none

module _ (s : Store) (w : Well s) (g : ℕ) (x : File) (some : 0 < g) (within : g ≤ s.file_count) (free : (s.file g).kind ≡ 0) where
  not_used : in_use s g ≡ false
  not_used = not_so (in_use s g) (λ e. let u = used s g e in u.kind free)

  pub made_unnamed : names s g ≡ 0
  made_unnamed = unused_unnamed s g (shape s w) (omega arith) not_used

  pub made : FileForm x → x.kind ≢ 0 → x.bytes ≡ [] → (x.kind ≡ 2 → 0 < x.depth) → Refiled s g x
  made form is_in_use none deep =
      record {
        from_one = some;
        to_last = within;
        not_root = λ e. let t = w.top (omega arith) in absurd (omega (arith, ap (λ (f : ℕ). (s.file f).kind) e));
        form = form;
        deep = deep;
        was_empty = λ is. let k = directory-kind s g is in absurd (omega arith);
        is_empty_lem = λ k. none;
        unnamed = λ o. made_unnamed;
        unheld = λ k. absurd (is_in_use k);
      }

-- ---- a file freed

module _ (s : Store) (g : ℕ) (h : Shape s) (c : Counted g s) where
  pub freed_well : Refiled s g no_file → Well (after s (file g no_file))
  freed_well r =
      let s' = after s (file g no_file) in
      let none : (s'.file g).kind ≡ 0 = ap (λ (x : File). x.kind) (file_changed s g no_file) in
      well_again s' (shape_file s g no_file r h)
      (count_in s' g (counted-file s g no_file r c)
      (λ is other. absurd (omega (arith, directory-kind s' g is)))
      (λ is isnt. let u = used s' g is in absurd (u.kind none)))

  -- an ordinary file in use that is no orphan has a name or a channel
  no_orphan : is_orphan s g ≡ false → in_use s g ≡ true → (s.file g).kind ≡ 1 → (0 < names s g) ⊎ (held s g ≡ true)
  unfolding is_orphan
  no_orphan e is_in_use kind =
      ⊎_elim
      (λ (t : held s g ≡ true). inr t)
      (λ (t : held s g ≡ false). ⊎_elim
      (λ (z : names s g ≡ 0). absurd (true≢false (sym (rw (is_in_use, kind, z, t)) ∙ e)))
      (λ (z : names s g ≢ 0). inl (omega arith))
      (same_or_not (names s g) 0))
      (tested (held s g))

  orphan_refiled : Orphan s g → Refiled s g no_file
  orphan_refiled o =
      let u = used s g o.is_in_use in
      record {
        from_one = u.some;
        to_last = u.within;
        not_root = λ e. let t = h.top (omega (arith, u.some, u.within)) in absurd (omega (arith, o.kind, ap (λ (f : ℕ). (s.file f).kind) e));
        form = as_free_lem (record { kind = refl; depth = refl; size = refl });
        deep = λ k. absurd (omega arith);
        was_empty = λ is. absurd (omega (arith, o.kind, directory-kind s g is));
        is_empty_lem = λ k. absurd (omega arith);
        unnamed = λ n. o.unnamed;
        unheld = λ k. o.unheld;
      }

  let_go_fits : FitsAll s (let_go s g)
  unfolding let_go
  let_go_fits = go (is_orphan s g) refl
    where
      go : (t : Bool) → is_orphan s g ≡ t → FitsAll s (pick t (file g no_file ∷ []) [])
      go true e =
          let u = used s g (orphan s g e).is_in_use in
          (smaller_fits s g no_file u.some u.within (λ l. absurd (omega arith)) (omega arith), tt)
      go false e = tt

  -- a directory has the name that it needs; an ordinary file goes if it has neither name nor channel
  pub let_go_lem : (is_directory s g ≡ true → g ≢ root → names s g ≡ 1) → Sure s (let_go s g)
  let_go_lem once =
      record {
        fits = let_go_fits;
        well = let_going_lem s g Well
            (λ e. well_again s h (count_in s g c once
            (λ is plain.
            let u = used s g is in
            no_orphan e is (form-ordinary (s.file g) (h.files g u.some u.within) u.kind (not_directory s g is plain)).kind)))
            (λ o. freed_well (orphan_refiled o));
      }
