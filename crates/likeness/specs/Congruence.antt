-- What the calls ask of a store is the same for both: what is in use, what is free, names, holders.
use Prim.Native.Nat.{ℕ, suc, ◌-◌}
use Rattle.std.specs.Prelude.{◌≡◌, List, Bool, true, ◌&&◌, length, ltb}
use Rattle.std.proofs.Math.Path.{ap, ap₂}
use Rattle.std.proofs.Common.{◌∙◌, arith}
use Rattle.std.proofs.Math.Bool.{not}
use Rattle.std.proofs.Math.Dec.{eqb}
use borrow.Author.Tests.{eqb-true, ne_eqb}
use Rattle.records.specs.RowLaws.{lowest_cong, how_many_cong, sum_cong}
use Rattle.records.specs.Tests.{and_right, and_false}
use Rattle.meaning.specs.File.{needed}
use Rattle.meaning.specs.Name.{names_in}
use Rattle.meaning.specs.Store.{Store, Channel, in_use, is_directory, is_open, blocks_needed, free_blocks, free_file, free_channel, free_files, free_channels, named, names, held, is_orphan, let_go, front}
use Rattle.meaning.specs.Result.{missing, nowhere, all_open, all_used}
use Rattle.trees.specs.AfterFile as after
use Rattle.trees.specs.Rewrite as trees
use Rattle.trees.proofs.Lookups.{named_cong}
use Rattle.likeness.specs.Alike.{Listed}
use Rattle.likeness.specs.Same.{SameStore}

module _ (listed : Listed) (s s' : Store) (a : SameStore listed s s') where
  -- ---- one file, one channel

  pub same_kind : (f : ℕ) → (s.file f).kind ≡ (s'.file f).kind
  same_kind f = (a.file f).kind

  pub same_size : (f : ℕ) → length (s.file f).bytes ≡ length (s'.file f).bytes
  same_size f = (a.file f).size

  pub same-held-file : (c : ℕ) → (s.channel c).file ≡ (s'.channel c).file
  same-held-file c = ap (λ (y : Channel). y.file) (a.channel c)

  pub same_use : (f : ℕ) → in_use s f ≡ in_use s' f
  same_use f = after.same_use s' s a.files f (same_kind f)

  pub same-directory : (f : ℕ) → is_directory s f ≡ is_directory s' f
  same-directory f = after.same-directory s' s a.files f (same_kind f)

  pub same-open : (c : ℕ) → is_open s c ≡ is_open s' c
  unfolding is_open
  same-open c = rw (a.channels, same-held-file c)

  -- a directory's bytes are equal: it is not ordinary
  pub directory-bytes : (d : ℕ) → is_directory s d ≡ true → (s.file d).bytes ≡ (s'.file d).bytes
  unfolding is_directory
  directory-bytes d is =
      let k : (s.file d).kind ≡ 2 = eqb-true (s.file d).kind 2 (and_right (in_use s d) (eqb (s.file d).kind 2) is) in
      (a.file d).bytes (rw (ne_eqb (s.file d).kind 1 (omega arith)) (and_false (listed d)))

  -- ---- what is free

  pub same-needed : blocks_needed s ≡ blocks_needed s'
  unfolding blocks_needed
  same-needed = rw a.files (sum_cong s'.file_count _ _ (λ i h. ap (λ (n : ℕ). needed n) (same_size (suc i))))

  pub same_free_blocks : free_blocks s ≡ free_blocks s'
  unfolding free_blocks
  same_free_blocks = ap₂ (λ m n. m - n) a.blocks same-needed

  abbrev is_free_file : Store → ℕ → Bool
  is_free_file s i = eqb (s.file (suc i)).kind 0

  abbrev is_free_channel : Store → ℕ → Bool
  is_free_channel s c = eqb (s.channel c).file 0

  pub same_free_file : free_file s ≡ free_file s'
  unfolding free_file
  same_free_file = ap suc (rw a.files (lowest_cong s'.file_count (is_free_file s) (is_free_file s') (λ i h. ap (λ k. eqb k 0) (same_kind (suc i)))))

  pub same_free_files : free_files s ≡ free_files s'
  unfolding free_files
  same_free_files = rw a.files (how_many_cong s'.file_count (is_free_file s) (is_free_file s') (λ i h. ap (λ k. eqb k 0) (same_kind (suc i))))

  pub same_free_channel : free_channel s ≡ free_channel s'
  unfolding free_channel
  same_free_channel = rw a.channels (lowest_cong s'.channel_count (is_free_channel s) (is_free_channel s') (λ c h. ap (λ k. eqb k 0) (same-held-file c)))

  pub same_free_channels : free_channels s ≡ free_channels s'
  unfolding free_channels
  same_free_channels = rw a.channels (how_many_cong s'.channel_count (is_free_channel s) (is_free_channel s') (λ c h. ap (λ k. eqb k 0) (same-held-file c)))

  -- ---- names and holders

  same_bytes : (d : ℕ) → is_directory s' d ≡ true → (s.file d).bytes ≡ (s'.file d).bytes
  same_bytes d is = directory-bytes d (same-directory d ∙ is)

  pub same-named : (name : List (List ℕ)) → named s name ≡ named s' name
  same-named = named_cong s' s same-directory same_bytes

  pub same_names : (f : ℕ) → names s f ≡ names s' f
  same_names f = trees.same_names s' s f a.files same-directory (λ d is. ap (λ dir. names_in dir f) (same_bytes d is))

  pub same-held : (f : ℕ) → held s f ≡ held s' f
  unfolding held
  same-held f = rw a.channels (ap (ltb 0) (how_many_cong s'.channel_count _ _ (λ c h. ap (λ k. eqb k f) (same-held-file c))))

  pub same_orphan : (f : ℕ) → is_orphan s f ≡ is_orphan s' f
  unfolding is_orphan
  same_orphan f = rw (same_use f, same_kind f, same_names f, same-held f)

  pub same-let_go : (f : ℕ) → let_go s f ≡ let_go s' f
  unfolding let_go
  same-let_go f = rw (same_orphan f)

  -- ---- causes of refusals

  pub same-missing : (name : List (List ℕ)) → missing s name ≡ missing s' name
  unfolding missing
  same-missing name = rw (same-named name)

  pub same-nowhere : (name : List (List ℕ)) → nowhere s name ≡ nowhere s' name
  unfolding nowhere
  same-nowhere name =
      ap₂ (λ m d. m && not d) (same-missing name) (same-directory (named s (front name)) ∙ ap (is_directory s') (same-named (front name)))

  pub same_all_open : all_open s ≡ all_open s'
  unfolding all_open
  same_all_open = rw (same_free_channel, a.channels)

  pub same_all_used : all_used s ≡ all_used s'
  unfolding all_used
  same_all_used = rw (same_free_file, a.files)
