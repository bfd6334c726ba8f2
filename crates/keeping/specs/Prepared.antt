-- A prepared store is well formed: the root is an empty directory, and nothing else is there.
use Rattle.std.specs.Prelude.{ℕ, ◌<◌, ◌≡◌, ◌≢◌, [], true}
use Rattle.std.proofs.Math.Path.{refl}
use Rattle.std.proofs.Common.{ap, sym, ◌∙◌, ⊎_elim, true≢false, arith, ne_eqb}
use Rattle.records.specs.Tests.{same_or_not}
use Rattle.meaning.specs.Name.{record_count}
use Rattle.meaning.specs.Store.{Store, File, prepared, after, no_file, directory, root, in_use, is_directory}
use Rattle.soundness.specs.Use.{used, of_used, directory_used, of_directory}
use Rattle.soundness.specs.Well.{FileForm, as_free_lem, as_directory_lem, ChannelForm, Well}

module _ (s : Store) where
  abbrev s' : Store
  s' = after s prepared

  top : s'.file root ≡ directory 0 []
  unfolding after
  top = refl

  none : (f : ℕ) → f ≢ root → s'.file f ≡ no_file
  unfolding after
  none f o = rw (ne_eqb f root o)

  -- what is in use is the root, which is a directory without records
  used_root : (f : ℕ) → in_use s' f ≡ true → f ≡ root
  used_root f is =
      ⊎_elim (λ e. e) (λ (o : f ≢ root). let u = used s' f is in absurd (u.kind (ap (λ (x : File). x.kind) (none f o)))) (same_or_not f root)

  directory-root : (f : ℕ) → is_directory s' f ≡ true → f ≡ root
  directory-root f is = used_root f (of_used s' f (directory_used s' f is))

  no_record : {A : Type 0} (d i : ℕ) → is_directory s' d ≡ true → i < record_count (s'.file d).bytes → A
  no_record d i is h =
      let e = directory-root d is in
      let l : i < record_count [] = rw (e, top) at h in
      absurd (omega arith)

  file-form : (f : ℕ) → FileForm (s'.file f)
  file-form f =
      ⊎_elim
      (λ (e : f ≡ root). rw (e, top) (as_directory_lem (record { kind = refl; depth = omega arith; size = omega arith; whole = refl })))
      (λ (o : f ≢ root). rw (none f o) (as_free_lem (record { kind = refl; depth = refl; size = refl })))
      (same_or_not f root)

  pub prepared_well : Well s'
  unfolding after
  prepared_well =
      record {
        files = λ f some within. file-form f;
        top = λ some. record { kind = refl; depth = refl };
        below = λ f other is. absurd (other (directory-root f is));
        channels = λ c h. ChannelForm.as_free_lem (record { file = refl; posn = refl });
        records = λ d i is h. no_record d i is h;
        distinct = λ d j i is l h b. no_record d i is h;
        deeper = λ d i is h. no_record d i is h;
        once = λ f is other. absurd (other (directory-root f is));
        kept = λ f is plain.
            let u = used s' f is in
            let e = used_root f is in
            absurd (true≢false (sym (of_directory s' f u.some u.within (ap (λ (g : ℕ). (s'.file g).kind) e)) ∙ plain));
      }
