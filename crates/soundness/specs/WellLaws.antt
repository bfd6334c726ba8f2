-- A store is well formed exactly where the plain facts hold.
use Rattle.std.specs.Prelude.{ℕ, suc, ◌+◌, ◌≤◌, ◌<◌, ◌≡◌, ◌≢◌, List, [], ◌∷◌, Bool, ◌&&◌, ◌||◌}
use Rattle.std.proofs.Math.Path.{refl, sym}
use Rattle.std.proofs.Common.{◌∙◌, arith}
use Rattle.std.proofs.Math.Logic.{⊎_elim}
use Rattle.std.proofs.Math.Bool.{true, false, not, true≢false}
use Rattle.std.proofs.Math.Dec.{eqb}
use borrow.Author.Tests.{eqb-true, eq-eqb, ne_eqb}
use Rattle.records.specs.Rows.{every}
use Rattle.records.specs.RowLaws.{every_all, all_every}
use Rattle.records.specs.Tests.{both, and_both, same_or_not, all_of-true, true-all_of}
use Rattle.meaning.specs.Name.{record_count, entry_at}
use Rattle.meaning.specs.Store.{Store, root, in_use, is_directory}
use Rattle.meaning.specs.Sound.{file_sound, files_sound, channel_sound, channels_sound, record_sound, name_new, directories_sound, one_deeper, is_named, names_sound, well_formed}
use Rattle.soundness.specs.Use.{implied, of_implied, every-file, file-every, used, of_used, directory_used, directory-kind, of_directory}
use Rattle.soundness.specs.Well.{FileForm, TopDirectory, ChannelForm, Well}
use Rattle.soundness.specs.NamedLaws.{Named, is_named_lem, of_is_named}
use Rattle.soundness.specs.FormLaws.{file-sound, of_file-sound, channel_form, of_channel_form, record_form, of_record_form, name_new_lem, of_name-new}

module _ (s : Store) where
  abbrev bytes_of : ℕ → List ℕ
  bytes_of d = (s.file d).bytes

  -- ---- file 1, and no other, is a directory of depth 0

  abbrev is_top : ℕ → Bool
  is_top f = eqb (s.file f).kind 2 && eqb (s.file f).depth 0

  top_file : (f : ℕ) → f ≡ root → eqb f root ≡ is_top f → TopDirectory (s.file f)
  top_file f is e =
      let (kind, depth) = both (eqb (s.file f).kind 2) (eqb (s.file f).depth 0) (sym e ∙ eq-eqb f root is) in
      record { kind = eqb-true (s.file f).kind 2 kind; depth = eqb-true (s.file f).depth 0 depth }

  below_top : (f : ℕ) → f ≢ root → eqb f root ≡ is_top f → (s.file f).kind ≡ 2 → 0 < (s.file f).depth
  below_top f other e kind =
      ⊎_elim
      (λ (z : (s.file f).depth ≡ 0). absurd (true≢false (sym (rw (kind, z)) ∙ sym e ∙ ne_eqb f root other)))
      (λ (n : (s.file f).depth ≢ 0). omega arith)
      (same_or_not (s.file f).depth 0)

  -- ---- the rules of the store

  module _ (e : files_sound s ≡ true) where
    each_file : (f : ℕ) → 0 < f → f ≤ s.file_count → file_sound f (s.file f) ≡ true
    unfolding files_sound
    each_file = every-file s.file_count (λ f. file_sound f (s.file f)) e

    file_facts : (f : ℕ) → 0 < f → f ≤ s.file_count → FileForm (s.file f) × (eqb f root ≡ is_top f)
    file_facts f some within = file-sound (s.file f) f (each_file f some within)

  of_files : ((f : ℕ) → 0 < f → f ≤ s.file_count → file_sound f (s.file f) ≡ true) → files_sound s ≡ true
  unfolding files_sound
  of_files h = file-every s.file_count (λ f. file_sound f (s.file f)) h

  abbrev directory-rule : ℕ → Bool
  directory-rule d = every (record_count (bytes_of d)) (λ i. record_sound s (bytes_of d) i && name_new (bytes_of d) i)

  each_record : directories_sound s ≡ true → (d i : ℕ) → is_directory s d ≡ true → i < record_count (bytes_of d)
      → (record_sound s (bytes_of d) i ≡ true) × (name_new (bytes_of d) i ≡ true)
  unfolding directories_sound
  each_record e d i is h =
      let u = directory_used s d is in
      let all = implied (is_directory s d) (directory-rule d) (every-file s.file_count (λ d. not (is_directory s d) || directory-rule d) e d u.some u.within) is in
      both (record_sound s (bytes_of d) i) (name_new (bytes_of d) i) (every_all (record_count (bytes_of d)) (λ i. record_sound s (bytes_of d) i && name_new (bytes_of d) i) all i h)

  of_records : ((d i : ℕ) → is_directory s d ≡ true → i < record_count (bytes_of d) → (record_sound s (bytes_of d) i ≡ true) × (name_new (bytes_of d) i ≡ true))
      → directories_sound s ≡ true
  unfolding directories_sound
  of_records h =
      file-every s.file_count (λ d. not (is_directory s d) || directory-rule d) λ d some within.
      of_implied (is_directory s d) (directory-rule d) λ is.
      all_every (record_count (bytes_of d)) (λ i. record_sound s (bytes_of d) i && name_new (bytes_of d) i)
      (λ i l. let r = h d i is l in and_both (record_sound s (bytes_of d) i) (name_new (bytes_of d) i) r.0 r.1)

  abbrev Deeper : ℕ → ℕ → Type 0
  Deeper d i = is_directory s (entry_at (bytes_of d) i).file ≡ true → (s.file (entry_at (bytes_of d) i).file).depth ≡ (s.file d).depth + 1

  one_deeper_lem : (d i : ℕ) → one_deeper s d i ≡ true → Deeper d i
  unfolding one_deeper
  one_deeper_lem d i e is =
      let f = (entry_at (bytes_of d) i).file in
      eqb-true (s.file f).depth ((s.file d).depth + 1) (implied (is_directory s f) (eqb (s.file f).depth ((s.file d).depth + 1)) e is)

  of_one_deeper : (d i : ℕ) → Deeper d i → one_deeper s d i ≡ true
  unfolding one_deeper
  of_one_deeper d i h =
      let f = (entry_at (bytes_of d) i).file in
      of_implied (is_directory s f) (eqb (s.file f).depth ((s.file d).depth + 1)) (λ is. eq-eqb (s.file f).depth ((s.file d).depth + 1) (h is))

  abbrev deeper_rule : ℕ → Bool
  deeper_rule d = every (record_count (bytes_of d)) (λ i. one_deeper s d i)

  module _ (e : names_sound s ≡ true) where
    parts : (every s.file_count (λ r. not (is_directory s (suc r)) || deeper_rule (suc r)) ≡ true) × (every s.file_count (λ i. is_named s (suc i)) ≡ true)
    unfolding names_sound
    parts = both (every s.file_count (λ r. not (is_directory s (suc r)) || deeper_rule (suc r))) (every s.file_count (λ i. is_named s (suc i))) e

    each_deeper : (d i : ℕ) → is_directory s d ≡ true → i < record_count (bytes_of d) → Deeper d i
    each_deeper d i is h =
        let u = directory_used s d is in
        let all = implied (is_directory s d) (deeper_rule d) (every-file s.file_count (λ d. not (is_directory s d) || deeper_rule d) parts.0 d u.some u.within) is in
        one_deeper_lem d i (every_all (record_count (bytes_of d)) (λ i. one_deeper s d i) all i h)

    each_named : (f : ℕ) → Named s f
    each_named f u = let w = used s f u in is_named_lem s f (every-file s.file_count (λ f. is_named s f) parts.1 f w.some w.within) u

  of_names : ((d i : ℕ) → is_directory s d ≡ true → i < record_count (bytes_of d) → Deeper d i) → ((f : ℕ) → Named s f) → names_sound s ≡ true
  unfolding names_sound
  of_names deep named =
      and_both (every s.file_count (λ r. not (is_directory s (suc r)) || deeper_rule (suc r))) (every s.file_count (λ i. is_named s (suc i)))
      (file-every s.file_count (λ d. not (is_directory s d) || deeper_rule d)
      (λ d some within. of_implied (is_directory s d) (deeper_rule d)
      (λ is. all_every (record_count (bytes_of d)) (λ i. one_deeper s d i) (λ i l. of_one_deeper d i (deep d i is l)))))
      (file-every s.file_count (λ f. is_named s f) (λ f some within. of_is_named s f (named f)))

  -- ---- all of them

  abbrev rules : List Bool
  rules = files_sound s ∷ channels_sound s ∷ directories_sound s ∷ names_sound s ∷ []

  each_channel : channels_sound s ≡ true → (c : ℕ) → c < s.channel_count → ChannelForm s (s.channel c)
  unfolding channels_sound
  each_channel e c h = channel_form s (s.channel c) (every_all s.channel_count (λ c. channel_sound s (s.channel c)) e c h)

  of_channels : ((c : ℕ) → c < s.channel_count → ChannelForm s (s.channel c)) → channels_sound s ≡ true
  unfolding channels_sound
  of_channels h = all_every s.channel_count (λ c. channel_sound s (s.channel c)) (λ c l. of_channel_form s (s.channel c) (h c l))

  pub well : well_formed s ≡ true → Well s
  unfolding well_formed
  well e =
      let (files, rest) = all_of-true rules e in
      let (channels, rest) = rest in
      let (directories, rest) = rest in
      let named = rest.0 in
      record {
        files = λ f some within. (file_facts files f some within).0;
        top = λ some. top_file root refl (file_facts files root (omega arith) (omega arith)).1;
        below = λ f other is.
            let u = directory_used s f is in
            below_top f other (file_facts files f u.some u.within).1 (directory-kind s f is);
        channels = each_channel channels;
        records = λ d i is h. record_form s (bytes_of d) i (each_record directories d i is h).0;
        distinct = λ d j i is l h b. name_new_lem s (bytes_of d) i (each_record directories d i is h).1 b j l;
        deeper = each_deeper named;
        once = λ f is other. (each_named named f (of_used s f (directory_used s f is)) other).0 is;
        kept = λ f u isnt.
            (each_named named f u
            (λ (r : f ≡ root). true≢false (sym (root-directory files f r u) ∙ isnt))).1 isnt;
      }
    where
      root-directory : files_sound s ≡ true → (f : ℕ) → f ≡ root → in_use s f ≡ true → is_directory s f ≡ true
      root-directory files f r u =
          let w = used s f u in
          of_directory s f w.some w.within (top_file f r (file_facts files f w.some w.within).1).kind

  pub of_well : Well s → well_formed s ≡ true
  unfolding well_formed
  of_well w =
      let files : files_sound s ≡ true = of_files (λ f some within. of_file-sound (s.file f) f (w.files f some within) (top_test f some within)) in
      let directories : directories_sound s ≡ true =
      of_records (λ d i is h. (of_record_form s (bytes_of d) i (w.records d i is h), of_name-new s (bytes_of d) i (λ b j l. w.distinct d j i is l h b))) in
      let named : names_sound s ≡ true = of_names w.deeper (λ f u other. (λ is. w.once f is other, λ isnt. w.kept f u isnt)) in
      true-all_of rules (files, (of_channels w.channels, (directories, (named, tt))))
    where
      top_test : (f : ℕ) → 0 < f → f ≤ s.file_count → eqb f root ≡ is_top f
      top_test f some within =
          ⊎_elim
          (λ (r : f ≡ root). let t = w.top (omega arith) in rw (r, t.kind, t.depth))
          (λ (n : f ≢ root). ne_eqb f root n ∙ sym (go (eqb (s.file f).kind 2) refl n))
          (same_or_not f root)
        where
          go : (t : Bool) → eqb (s.file f).kind 2 ≡ t → f ≢ root → t && eqb (s.file f).depth 0 ≡ false
          go false e n = refl
          go true e n =
              let deep : 0 < (s.file f).depth = w.below f n (of_directory s f some within (eqb-true (s.file f).kind 2 e)) in
              ne_eqb (s.file f).depth 0 (omega arith)
