-- create and make directory: a new file with the lowest free number, and its name. The file is made first and then gets its name,
-- which leaves the same store.
use Rattle.std.specs.Prelude.{ℕ, suc, ◌+◌, ◌-◌, ◌≤◌, ◌<◌, ◌≢◌, true, false, not, eqb}
use Rattle.std.proofs.Math.Path.{◌≡◌, refl}
use Rattle.std.proofs.Common.{◌∙◌, ltb-false, eqb-true}
use mathlib.Core.List.{List, [], ◌∷◌}
use Rattle.std.proofs.Math.Option.{some}
use native.Mathlib.Omega.{arith}
use Rattle.std.proofs.Math.ListN.{length, length-take}
use Rattle.std.proofs.lemmas.Bool.{eqb-false, not-false}
use Rattle.records.specs.Rows.{lowest}
use Rattle.records.specs.RowLaws.{lowest_hit}
use Rattle.meaning.specs.File.{needed, longest}
use Rattle.meaning.specs.Name.{entry, syllables, written, entry_at, with_entry, most_syllables}
use Rattle.meaning.specs.Store.{Store, File, Change, file, channel, after, after_all, channel_to, ordinary, directory, in_use, is_directory, free_blocks, free_file, free_channel, named, front, last}
use Rattle.meaning.specs.Result.{missing, nowhere, all_open, all_used}
use Rattle.meaning.specs.NameCalls.{parent, record_for, rewritten, naming, if_naming_fits, create, mkdir}
use Rattle.meaning.specs.declared.Report.TheVariants.{BadName, NoSuchName, NoFreeCids, IsDirectory, NoFreeFids, NameInUse}
use Rattle.names.specs.ReadLaws.{read}
use Rattle.soundness.specs.Use.{used, of_used, directory-kind}
use Rattle.soundness.specs.Well.{FileForm, as_ordinary_lem, as_directory_lem, Well}
use Rattle.trees.specs.AfterFile.{file_changed, file-other, files_swap}
use Rattle.trees.specs.Rewrite.{with_record}
use Rattle.trees.specs.Standing.{Place, Vacant}
use Rattle.trees.proofs.Depth.{named-depth}
use Rattle.trees.specs.Naming.{with_name}
use Rattle.keeping.specs.Shape.{shape, counted, well_again}
use Rattle.keeping.specs.FileStep.{Refiled}
use Rattle.keeping.proofs.FileStep.{own_use, own_kind, other-directory, shape_file, names-file, counted-file}
use Rattle.keeping.specs.Sure.{Sure, Good, Sized, past, with_name_lem, if_fits_lem, by_test, smaller_fits, sure_then}
use Rattle.keeping.proofs.Files.{rewritten_well, made, made_unnamed}
use Rattle.keeping.specs.OnChannels.{named_used, opens}
use Rattle.keeping.proofs.Named.{new_vacant, named_fits, Spot, spot, spot_moved, Nameable, given_shape, given_counted}

-- ---- the lowest free file number

pub record FreeNumber (s : Store) (g : ℕ) : Type 0 where
  pub from_one : 0 < g
  pub to_last : g ≤ s.file_count
  pub kind : (s.file g).kind ≡ 0

pub free_number : (s : Store) → all_used s ≡ false → FreeNumber s (free_file s)
unfolding all_used free_file
free_number s e =
    let i = lowest s.file_count (λ i. eqb (s.file (suc i)).kind 0) in
    let there : i < s.file_count = ltb-false s.file_count (suc i) e in
    record {
      from_one = omega arith;
      to_last = omega arith;
      kind = eqb-true (s.file (suc i)).kind 0 (lowest_hit s.file_count (λ i. eqb (s.file (suc i)).kind 0) there);
    }

-- ---- file g is to be x, without bytes, and name n is to stand for it

module _ (s : Store) (w : Well s) (z : Sized s) (n : List (List ℕ)) (v : Vacant s n) (g : ℕ) (free : FreeNumber s g) (x : File)
    (form : FileForm x) (is_in_use : x.kind ≢ 0) (none : x.bytes ≡ []) (deep : x.kind ≡ 2 → x.depth ≡ (s.file (parent s n)).depth + 1)
    (size : length (naming s n g).bytes ≤ longest) where
  abbrev d : ℕ
  d = parent s n

  abbrev s₁ : Store
  s₁ = after s (file g x)

  refiled : Refiled s g x
  refiled = made s w g x free.from_one free.to_last free.kind form is_in_use none (λ k. omega (arith, deep k))

  other : d ≢ g
  other e = let k : (s.file g).kind ≡ 2 = rw e at (directory-kind s d v.place.directory) in omega (arith, free.kind)

  same-parent : s₁.file d ≡ s.file d
  same-parent = file-other s g x d other

  spot₁ : Spot s₁ d (record_for s n) (last n)
  spot₁ = spot_moved s s₁ d (record_for s n) (last n) same-parent (other-directory s g x refiled d other ∙ v.place.directory) (spot s n v.place)

  nameable : Nameable s₁ d g
  nameable =
      record {
        is_in_use = own_use s g x refiled is_in_use;
        not_root = refiled.not_root;
        small = omega (arith, free.to_last, z.few-files);
        deeper = λ is. rw (file_changed s g x, same-parent) (deep (own_kind s g x refiled is));
      }

  s₂ : Store
  s₂ = with_record s₁ d (record_for s n) (written (entry g (last n)))

  well₂ : Well s₂
  unfolding s₂ naming rewritten
  well₂ =
      let size₁ : length (with_entry (s₁.file d).bytes (record_for s n) (written (entry g (last n)))) ≤ longest = rw same-parent size in
      let gone : (entry_at (s₁.file d).bytes (record_for s n)).file ≡ 0 = rw same-parent (v.place.file ∙ v.none) in
      well_again s₂
      (given_shape s₁ d (record_for s n) (last n) spot₁ g nameable (shape_file s g x refiled (shape s w)) size₁)
      (rw gone at (given_counted s₁ d (record_for s n) (last n) spot₁ g nameable (counted-file s g x refiled (counted s w g))
      (λ is. names-file s g x refiled g (omega (arith, free.from_one)) ∙ made_unnamed s w g x free.from_one free.to_last free.kind)))

  -- the changes in the order of the call
  abbrev made_store : Store
  made_store = after (with_name s n g) (file g x)

  same_store : made_store ≡ s₂
  unfolding s₂ naming rewritten
  same_store = files_swap s d g (naming s n g) x other ∙ rw same-parent

  pub made_well : Well made_store
  made_well = rw same_store well₂

  pub made_used : in_use made_store g ≡ true
  unfolding after
  made_used = of_used made_store g (record { some = free.from_one; within = free.to_last; kind = rw (file_changed (with_name s n g) g x) is_in_use })

  pub made_sure : needed (length (naming s n g).bytes) - needed (length (s.file d).bytes) ≤ free_blocks s → (rest : List Change) → Sure made_store rest
      → Sure s (file d (naming s n g) ∷ file g x ∷ rest)
  unfolding after
  made_sure room rest more =
      sure_then s (file d (naming s n g)) (file g x ∷ rest) (named_fits s n v.place g room)
      (sure_then (with_name s n g) (file g x) rest
      (smaller_fits (with_name s n g) g x free.from_one free.to_last (λ l. is_in_use) (rw none (omega arith)))
      more)

-- ---- the calls

module _ (s : Store) (w : Well s) (z : Sized s) where
  -- the lowest free channel of a store with the same channels
  module _ (n : List (List ℕ)) (f : ℕ) (free : all_open s ≡ false) where
    pub create-new : (v : Vacant s n) → FreeNumber s f → length (naming s n f).bytes ≤ longest
        → needed (length (naming s n f).bytes) - needed (length (s.file (parent s n)).bytes) ≤ free_blocks s
        → Sure s (file (parent s n) (naming s n f) ∷ file f (ordinary []) ∷ channel (free_channel s) (channel_to f 0) ∷ [])
    unfolding after free_channel all_open
    create-new v number size room =
        let s' = after (with_name s n f) (file f (ordinary [])) in
        let form : FileForm (ordinary []) = as_ordinary_lem (record { kind = refl; depth = refl; size = omega arith }) in
        let is_in_use : ◌≡◌ {A = ℕ} 1 0 → ⊥ = λ e. omega arith in
        let plain : ◌≡◌ {A = ℕ} 1 2 → 0 ≡ (s.file (parent s n)).depth + 1 = λ e. absurd (omega arith) in
        made_sure s w z n v f number (ordinary []) form is_in_use refl plain size room (channel (free_channel s) (channel_to f 0) ∷ [])
        (opens s' (made_well s w z n v f number (ordinary []) form is_in_use refl plain size) (record { some_files = z.some_files; few-files = z.few-files }) f free
        (made_used s w z n v f number (ordinary []) form is_in_use refl plain size))

    pub create-old : in_use s f ≡ true → is_directory s f ≡ false → Sure s (file f (ordinary []) ∷ channel (free_channel s) (channel_to f 0) ∷ [])
    unfolding after free_channel all_open
    create-old is_in_use plain =
        let s' = after s (file f (ordinary [])) in
        let u = used s f is_in_use in
        sure_then s (file f (ordinary [])) (channel (free_channel s) (channel_to f 0) ∷ [])
        (smaller_fits s f (ordinary []) u.some u.within (λ l. absurd (omega arith)) (omega arith))
        (opens s' (rewritten_well s w f [] is_in_use plain (omega arith)) (record { some_files = z.some_files; few-files = z.few-files }) f free
        (of_used s' f (record { some = u.some; within = u.within; kind = rw (file_changed s f (ordinary [])) (λ (e : ◌≡◌ {A = ℕ} 1 0). omega arith) })))

  pub good-create : (bytes : List ℕ) → Good s (create bytes s)
  unfolding create if_naming_fits
  good-create bytes =
      with_name_lem s (syllables bytes) _ λ n is.
      past s (nowhere s n) NoSuchName _ λ here.
      past s (is_directory s (named s n)) IsDirectory _ λ plain.
      past s (all_open s) NoFreeCids _ λ free.
      by_test s (missing s n) _ _
      (λ gone.
      past s (all_used s) NoFreeFids _ λ number.
      if_fits_lem s _ _ _ λ size room.
      create-new n (free_file s) free (new_vacant s w z bytes n is gone here) (free_number s number) size room)
      (λ there. create-old n (named s n) free (named_used s w z bytes n is there) plain)

  -- ---- make directory

  -- with at most 7 syllables its parent is at most 6 deep
  parent-depth : (bytes : List ℕ) (n : List (List ℕ)) → syllables bytes ≡ some n → length n ≢ most_syllables → Place s n → (s.file (parent s n)).depth ≤ 6
  unfolding parent
  parent-depth bytes n is few p =
      omega (arith, named-depth s w (front n) p.directory, length-take (length n - 1) n, (read bytes n is).few)

  pub mkdir_sure : (n : List (List ℕ)) (f : ℕ) (v : Vacant s n) → FreeNumber s f → (s.file (parent s n)).depth ≤ 6 → length (naming s n f).bytes ≤ longest
      → needed (length (naming s n f).bytes) - needed (length (s.file (parent s n)).bytes) ≤ free_blocks s
      → Sure s (file (parent s n) (naming s n f) ∷ file f (directory ((s.file (parent s n)).depth + 1) []) ∷ [])
  unfolding after_all
  mkdir_sure n f v number shallow size room =
      let x = directory ((s.file (parent s n)).depth + 1) [] in
      let form : FileForm x = as_directory_lem (record { kind = refl; depth = omega arith; size = omega arith; whole = refl }) in
      let is_in_use : ◌≡◌ {A = ℕ} 2 0 → ⊥ = λ e. omega arith in
      made_sure s w z n v f number x form is_in_use refl (λ k. refl) size room []
      (record { fits = tt; well = made_well s w z n v f number x form is_in_use refl (λ k. refl) size })

  pub good-mkdir : (bytes : List ℕ) → Good s (mkdir bytes s)
  unfolding mkdir if_naming_fits
  good-mkdir bytes =
      with_name_lem s (syllables bytes) _ λ n is.
      past s (eqb (length n) most_syllables) BadName _ λ few.
      past s (nowhere s n) NoSuchName _ λ here.
      past s (not (missing s n)) NameInUse _ λ gone.
      past s (all_used s) NoFreeFids _ λ number.
      if_fits_lem s _ _ _ λ size room.
      let v = new_vacant s w z bytes n is (not-false (missing s n) gone) here in
      mkdir_sure n (free_file s) v (free_number s number) (parent-depth bytes n is (eqb-false (length n) most_syllables few) v.place) size room
