-- Every call but read and write gives the same on both stores: the same refusal, or the same answer and changes.
use Rattle.std.specs.Prelude.{ℕ, ◌*◌, ◌≡◌, List, [], ◌∷◌, Bool, true, false, not, length, ltb}
use Rattle.std.proofs.Math.Path.{refl, ap}
use Rattle.std.proofs.Common.{◌∙◌}
use Rattle.std.proofs.Math.Option.{Option, none, some}
use Rattle.std.proofs.lemmas.Bool.{not-false}
use Rattle.meaning.specs.Name.{name_count, listing, syllables}
use Rattle.meaning.specs.Store.{Store, Change, file, channel, no_channel, after, after_all, is_directory, free_file, named, let_go}
use Rattle.meaning.specs.Result.{Result, refused, done, unless, on_channel, with_syllables, missing, nowhere}
use Rattle.meaning.specs.ChannelCalls.{close, seek, fstat, room}
use Rattle.meaning.specs.NameCalls.{parent, naming, unnaming, open', create, link, unlink, with_changes, and_then, move, mkdir, rmdir, ls}
use Rattle.meaning.specs.declared.Report.{Report}
use Rattle.meaning.specs.declared.Report.TheVariants.{OutShort}
use Rattle.likeness.specs.Alike.{Listed}
use Rattle.likeness.specs.Same.{SameStore, after_same, after_all_lem}
use Rattle.likeness.specs.Congruence.{same_kind, same_size, same-held-file, same-directory, same-open, directory-bytes, same_free_blocks, same_free_file, same_free_files, same_free_channel, same_free_channels, same-named, same-held, same-let_go, same-missing, same-nowhere, same_all_open, same_all_used}
use Rattle.likeness.specs.Naming.{not_nowhere, same-parent, parent-depth, same-naming, same-unnaming, same-naming_fits}

-- ---- results that are the same

pub same-unless : (t t' : Bool) (why : Report) (r r' : Result) → t ≡ t' → (t ≡ false → r ≡ r') → unless t why r ≡ unless t' why r'
unfolding unless
same-unless true t' why r r' e h = rw (← e)
same-unless false t' why r r' e h = rw (← e) (h refl)

same-syllables : (o : Option (List (List ℕ))) (r r' : List (List ℕ) → Result) → ((name : List (List ℕ)) → r name ≡ r' name)
    → with_syllables o r ≡ with_syllables o r'
unfolding with_syllables
same-syllables none r r' h = refl
same-syllables (some name) r r' h = h name

module _ (listed : Listed) (s s' : Store) (a : SameStore listed s s') where
  pub same_channel : (c : ℕ) (r r' : Result) → r ≡ r' → on_channel s c r ≡ on_channel s' c r'
  unfolding on_channel
  same_channel c r r' e = rw (same-open listed s s' a c, e)

  missings : (name : List (List ℕ)) → missing s name ≡ missing s' name
  missings = same-missing listed s s' a

  nowheres : (name : List (List ℕ)) → nowhere s name ≡ nowhere s' name
  nowheres = same-nowhere listed s s' a

  nameds : (name : List (List ℕ)) → named s name ≡ named s' name
  nameds = same-named listed s s' a

  parents : (name : List (List ℕ)) → parent s name ≡ parent s' name
  parents = same-parent listed s s' a

  directories : (f : ℕ) → is_directory s f ≡ is_directory s' f
  directories = same-directory listed s s' a

  letting : (change : Change) (f : ℕ) → let_go (after s change) f ≡ let_go (after s' change) f
  letting change = same-let_go listed (after s change) (after s' change) (after_same listed s s' a change)

  -- ---- calls on a channel, and room

  pub same-close : (c : ℕ) → close c s ≡ close c s'
  unfolding close
  same-close c =
      let closed = channel c no_channel in
      same_channel c _ _ (rw (a.channel c, letting closed (s'.channel c).file))

  -- the length of the file that a channel holds
  pub same_end : (c : ℕ) → length (s.file (s.channel c).file).bytes ≡ length (s'.file (s'.channel c).file).bytes
  same_end c = same_size listed s s' a (s.channel c).file ∙ ap (λ f. length (s'.file f).bytes) (same-held-file listed s s' a c)

  pub same-seek : (c mode n : ℕ) → seek c mode n s ≡ seek c mode n s'
  unfolding seek
  same-seek c mode n = rw (a.channel c, same_size listed s s' a (s'.channel c).file) (same_channel c _ _ refl)

  pub same-fstat : (c : ℕ) → fstat c s ≡ fstat c s'
  unfolding fstat
  same-fstat c = rw (a.channel c, same_size listed s s' a (s'.channel c).file, same_kind listed s s' a (s'.channel c).file) (same_channel c _ _ refl)

  pub same-room : room s ≡ room s'
  unfolding room
  same-room = rw (same_free_blocks listed s s' a, same_free_files listed s s' a, same_free_channels listed s s' a)

  -- ---- calls on names

  pub same-open' : (bytes : List ℕ) → open' bytes s ≡ open' bytes s'
  unfolding open'
  same-open' bytes =
      same-syllables (syllables bytes) _ _ λ name.
      rw (missings name, same_all_open listed s s' a, same_free_channel listed s s' a, nameds name)

  pub same-create : (bytes : List ℕ) → create bytes s ≡ create bytes s'
  unfolding create
  same-create bytes =
      same-syllables (syllables bytes) _ _ λ name.
      same-unless _ _ _ _ _ (nowheres name) λ there.
      rw (
        same-naming_fits listed s s' a name there,
        same-naming listed s s' a name there (free_file s) (free_file s') (same_free_file listed s s' a),
        parents name,
        same_free_file listed s s' a,
        same_free_channel listed s s' a,
        same_all_open listed s s' a,
        same_all_used listed s s' a,
        missings name,
        nameds name,
        directories (named s' name),
      )

  pub same-unlink : (bytes : List ℕ) → unlink bytes s ≡ unlink bytes s'
  unfolding unlink
  same-unlink bytes =
      same-syllables (syllables bytes) _ _ λ name.
      same-unless _ _ _ _ _ (missings name) λ there.
      let dir = same-unnaming listed s s' a name (not_nowhere s name there) in
      rw (dir, parents name, nameds name, directories (named s' name), letting (file (parent s' name) (unnaming s' name)) (named s' name))

  pub same-link : (old new : List ℕ) → link old new s ≡ link old new s'
  unfolding link
  same-link old new =
      same-syllables (syllables old) _ _ λ from.
      same-syllables (syllables new) _ _ λ to.
      rw (missings from, nameds from, nameds to, directories (named s' from), directories (named s' to))
      (same-unless _ _ _ _ _ refl λ _.
      same-unless _ _ _ _ _ refl λ _.
      same-unless _ _ _ _ _ (nowheres to) λ there.
      rw (
        same-naming_fits listed s s' a to there,
        same-naming listed s s' a to there (named s' from) (named s' from) refl,
        parents to,
        letting (file (parent s' to) (naming s' to (named s' from))) (named s' to),
      ))

  pub same-mkdir : (bytes : List ℕ) → mkdir bytes s ≡ mkdir bytes s'
  unfolding mkdir
  same-mkdir bytes =
      same-syllables (syllables bytes) _ _ λ name.
      same-unless _ _ _ _ _ refl λ _.
      same-unless _ _ _ _ _ (nowheres name) λ there.
      rw (
        same-naming_fits listed s s' a name there,
        same-naming listed s s' a name there (free_file s) (free_file s') (same_free_file listed s s' a),
        parent-depth listed s s' a name there,
        parents name,
        same_free_file listed s s' a,
        same_all_used listed s s' a,
        missings name,
      )

  -- a directory's bytes, where there is one
  same-dir : (name : List (List ℕ)) → not (is_directory s' (named s' name)) ≡ false → (s.file (named s' name)).bytes ≡ (s'.file (named s' name)).bytes
  same-dir name is = directory-bytes listed s s' a (named s' name) (directories (named s' name) ∙ not-false (is_directory s' (named s' name)) is)

  pub same-rmdir : (bytes : List ℕ) → rmdir bytes s ≡ rmdir bytes s'
  unfolding rmdir
  same-rmdir bytes =
      same-syllables (syllables bytes) _ _ λ name.
      same-unless _ _ _ _ _ (missings name) λ there.
      let dir = same-unnaming listed s s' a name (not_nowhere s name there) in
      rw (dir, parents name, nameds name, directories (named s' name), same-held listed s s' a (named s' name))
      (same-unless _ _ _ _ _ refl λ is. rw (same-dir name is))

  pub same-ls : (bytes : List ℕ) (size : ℕ) → ls bytes size s ≡ ls bytes size s'
  unfolding ls
  same-ls bytes size =
      same-syllables (syllables bytes) _ _ λ name.
      rw (missings name, nameds name, directories (named s' name))
      (same-unless _ _ _ _ _ refl λ _.
      same-unless _ _ _ _ _ refl λ is.
      ap (λ dir. unless (ltb size (14 * name_count dir)) OutShort (done (name_count dir ∷ []) (listing dir) [])) (same-dir name is))

-- link, then unlink on the stores that it leaves
pub same_move : (listed : Listed) (s s' : Store) → SameStore listed s s' → (old new : List ℕ) → move old new s ≡ move old new s'
unfolding move and_then
same_move listed s s' a old new = rw (same-link listed s s' a old new) (go (link old new s'))
  where
    go : (r : Result) → and_then s r (unlink old) ≡ and_then s' r (unlink old)
    go (refused why) = refl
    go (done ns bytes changes) = ap (with_changes changes) (same-unlink listed (after_all s changes) (after_all s' changes) (after_all_lem listed changes s s' a) old)
