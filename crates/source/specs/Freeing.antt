-- A file that a call lets go is destroyed exactly where neither a name nor a channel refers to it.
use Rattle.std.specs.Prelude.{ℕ, ◌<◌, ◌≡◌, refl, ◌≢◌, Bool, true, false, eqb}
use Rattle.std.proofs.Common.{ap, sym, ◌∙◌, true≢false, arith}
use Rattle.std.proofs.Math.Logic.{⊎_elim}
use Rattle.std.proofs.Math.Option.{some}
use borrow.Author.Tests.{eqb-true, ne_eqb, ltb-true, lt-ltb}
use Rattle.records.specs.Rows.{lowest, how_many}
use Rattle.records.specs.RowLaws.{some_lowest, lowest_hit}
use Rattle.records.specs.Tests.{tested, same_or_not, not_so}
use Rattle.meaning.specs.Store.{Store, file, after, after_all, no_file, root, in_use, is_directory, is_open, named, names, held, is_orphan, let_go}
use Rattle.soundness.specs.Use.{used, directory-kind}
use Rattle.trees.proofs.LetGo.{Orphan, let_going_lem}
use Rattle.keeping.specs.References.{not_held}
use Rattle.source.specs.Sets.{◌∈dom◌, ◌⩤◌, the}
use Rattle.source.specs.Channels.{CHAN}
use Rattle.source.specs.Filing.{Used, by_name, by_channel, FS, ΞNS, destroyFS}
use Rattle.source.specs.Departures.{Freeing, stays, goes}
use Rattle.source.specs.View.{chan_of, view}
use Rattle.source.specs.ViewLaws.{numbered_is, numbered_some, file_there, channel_there, channel_open, channel_is, open_below}
use Rattle.source.specs.Invariants.{names-front}
use Rattle.source.specs.StepLaws.{file-channels, file-names, file_dropped}
use Rattle.source.specs.StateLaws.{value, used_same}
use Rattle.source.specs.NamedBy.{name_counts}
use Rattle.source.specs.Tree.{Tree, name_of}

-- ---- a channel that holds a file

module _ (s : Store) (f : ℕ) where
  abbrev holding : ℕ → Bool
  holding c = eqb (s.channel c).file f

  held-open : f ≢ 0 → held s f ≡ true → (c : ℕ) × (is_open s c ≡ true) × ((s.channel c).file ≡ f)
  unfolding held is_open
  held-open there h =
      let below = some_lowest s.channel_count holding (ltb-true 0 (how_many s.channel_count holding) h) in
      let c = lowest s.channel_count holding in
      let is = eqb-true (s.channel c).file f (lowest_hit s.channel_count holding below) in
      (c, rw (lt-ltb c s.channel_count below, ne_eqb (s.channel c).file 0 (λ z. there (sym is ∙ z))), is)

  held_used : f ≢ 0 → held s f ≡ true → Used (view s) f
  held_used there h =
      let (c, o, is) = held-open there h in
      by_channel c (chan_of (s.channel c)) (channel_there s c o) is

  named_used : Tree s → f ≢ 0 → 0 < names s f → Used (view s) f
  named_used t there h =
      let (name, at) = name_of s t f there h in
      by_name name (numbered_some (named s name) (λ z. there (sym at ∙ z)) ∙ ap some at)

  directory-named : Tree s → f ≢ 0 → is_directory s f ≡ true → Used (view s) f
  directory-named t there is =
      let (name, at) = t.reached f is in
      by_name name (numbered_some (named s name) (λ z. there (sym at ∙ z)) ∙ ap some at)

  -- a file in use that is no orphan is referred to
  kept_used : Tree s → in_use s f ≡ true → (is_directory s f ≡ false → (s.file f).kind ≡ 1) → is_orphan s f ≡ false → Used (view s) f
  unfolding is_orphan
  kept_used t u plain kept =
      let there : f ≢ 0 = λ (z : f ≡ 0). omega (arith, (used s f u).some) in
      ⊎_elim
      (λ (is : is_directory s f ≡ true). directory-named t there is)
      (λ (isnt : is_directory s f ≡ false). ⊎_elim
      (λ (h : held s f ≡ true). held_used there h)
      (λ (h : held s f ≡ false). ⊎_elim
      (λ (z : names s f ≡ 0). absurd (true≢false (sym (rw (u, plain isnt, z, h)) ∙ kept)))
      (λ (n : names s f ≢ 0). named_used t there (omega arith))
      (same_or_not (names s f) 0))
      (tested (held s f)))
      (tested (is_directory s f))

  -- an orphan is not
  orphan_unused : f ≢ root → Orphan s f → Used (view s) f → ⊥
  orphan_unused other o (by_name name is) =
      let there : f ≢ 0 = λ (z : f ≡ 0). omega (arith, (used s f o.is_in_use).some) in
      omega (arith, o.unnamed, name_counts s f name (numbered_is (named s name) f is) there other)
  orphan_unused other o (by_channel c chan is its) =
      not_held s f o.unheld c (open_below s c (channel_open s c chan is)) (ap (λ (y : CHAN). y.fid) (channel_is s c chan is) ∙ its)

-- ---- a file let go

module _ (s : Store) (t : Tree s) (fs : FS (view s)) (f : ℕ) (u : in_use s f ≡ true) (plain : is_directory s f ≡ false → (s.file f).kind ≡ 1)
    (other : is_directory s f ≡ false → f ≢ root) where
  -- the state without the file
  without : Orphan s f → destroyFS f (view s) (view (after s (file f no_file)))
  without o =
      let unused = orphan_unused s f (other isnt) o in
      let names_same = file-names s f no_file isnt (λ (k : 0 ≡ 2). absurd (omega arith)) in
      let gone = file_dropped s f no_file refl in
      record {
        change = record { before = fs; after = record { names = names-front (after s (file f no_file)); used = still unused names_same gone } };
        file = record { exists = ((s.file f).bytes, file_there s f u); destroys = gone };
        channels = file-channels s f no_file;
        names = names_same;
        unused = unused;
      }
    where
      isnt : is_directory s f ≡ false
      isnt = not_so (is_directory s f) (λ is. omega (arith, directory-kind s f is, o.kind))

      s' : Store
      s' = after s (file f no_file)

      -- what is referred to was so before, and is another file
      still : (Used (view s) f → ⊥) → ΞNS (view s) (view s') → (view s').fstore ≡ the f ⩤ (view s).fstore → (g : ℕ) → Used (view s') g → g ∈dom (view s').fstore
      still unused same gone g h =
          let before = used_same (view s) (view s') (file-channels s f no_file) same.names g h in
          let n : g ≢ f = λ (e : g ≡ f). unused (rw e at before) in
          let (bytes, is) = fs.used g before in
          (bytes, value gone g ∙ rw (ne_eqb g f n) is)

  pub let_go_lem : Freeing f (view s) (view (after_all s (let_go s f)))
  let_go_lem = let_going_lem s f (λ t. Freeing f (view s) (view t)) (λ e. stays (kept_used s f t u plain e) refl) (λ o. goes (without o))
