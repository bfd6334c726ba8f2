-- Whether a file is let go, read off the store before the change: by unlink, by link and by close.
use Prim.Native.Nat.{ℕ, ◌+◌, ◌<◌}
use Rattle.std.specs.Prelude.{◌≡◌, refl, ◌≢◌, List, false, ◌&&◌}
use Rattle.std.proofs.Math.Path.{ap, sym}
use Rattle.std.proofs.Common.{◌∙◌}
use Rattle.std.proofs.Math.Logic.{⊎_elim}
use Rattle.std.proofs.Math.Bool.{Bool, not}
use native.Mathlib.Omega.{arith}
use Rattle.std.proofs.Math.Dec.{ltb, eqb}
use borrow.Author.Tests.{eq-eqb, ne_eqb, lt-ltb, le-ltb}
use Rattle.records.specs.Rows.{tally, how_many}
use Rattle.records.specs.RowLaws.{how_many_update}
use Rattle.records.specs.Tests.{same_or_not}
use Rattle.meaning.specs.Name.{entry, written, blank_record}
use Rattle.meaning.specs.Store.{Store, Channel, channel, after, no_channel, in_use, is_directory, named, names, held, is_orphan, last}
use Rattle.meaning.specs.NameCalls.{parent, record_for, naming, unnaming}
use Rattle.soundness.specs.Well.{Well}
use Rattle.soundness.specs.WellFacts.{ordinary-form}
use Rattle.trees.specs.AfterFile.{channel_changed, channel_other}
use Rattle.trees.specs.Rewrite.{Rewriting, with_record, kind-same, use_same, held_same}
use Rattle.trees.specs.Standing.{Standing}
use Rattle.trees.specs.Naming.{with_name, without_name, naming-rewrites, unnaming-rewrites}
use Rattle.trees.specs.Orphans.{names_less, names_replaced, names_again}

-- two numbers one apart
one_less : (a b : ℕ) → a + 1 ≡ b → eqb a 0 ≡ eqb b 1
one_less a b e =
    ⊎_elim
    (λ (z : a ≡ 0). eq-eqb a 0 z ∙ sym (eq-eqb b 1 (omega arith)))
    (λ (n : a ≢ 0). ne_eqb a 0 n ∙ sym (ne_eqb b 1 (omega arith)))
    (same_or_not a 0)

-- ---- a name that stands for an ordinary file is taken, or given to another file

module _ (s : Store) (w : Well s) (n : List (List ℕ)) (t : Standing s n) where
  abbrev g : ℕ
  g = named s n

  module _ (plain : is_directory s g ≡ false) where
    kind : (s.file g).kind ≡ 1
    kind = (ordinary-form s w g t.is_in_use plain).kind

    -- after any change of a record
    orphan_rewritten : (d i : ℕ) (r : List ℕ) → Rewriting s d i r → is_orphan (with_record s d i r) g ≡ eqb (names (with_record s d i r) g) 0 && not (held s g)
    unfolding is_orphan
    orphan_rewritten d i r x = rw (use_same s d i r x g, kind-same s d i r x g, held_same s d i r x g, t.is_in_use, kind)

    -- unlink lets it go if this was its only name and no channel holds it
    pub orphan_unlinked : is_orphan (without_name s n) g ≡ eqb (names s g) 1 && not (held s g)
    unfolding unnaming
    orphan_unlinked =
        orphan_rewritten (parent s n) (record_for s n) blank_record (unnaming-rewrites s n t.place)
        ∙ ap (λ (b : Bool). b && not (held s g)) (one_less (names (without_name s n) g) (names s g) (names_less s w n t))

    -- link does the same with the file that it replaces, unless that is the file itself
    pub orphan_replaced : (f : ℕ) → f < 65536 → f ≢ g → is_orphan (with_name s n f) g ≡ eqb (names s g) 1 && not (held s g)
    unfolding naming
    orphan_replaced f small other =
        orphan_rewritten (parent s n) (record_for s n) (written (entry f (last n))) (naming-rewrites s n t.place f small)
        ∙ ap (λ (b : Bool). b && not (held s g)) (one_less (names (with_name s n f) g) (names s g) (names_replaced s w n t f small other))

    pub orphan_again : g < 65536 → is_orphan (with_name s n g) g ≡ false
    unfolding naming
    orphan_again small =
        orphan_rewritten (parent s n) (record_for s n) (written (entry g (last n))) (naming-rewrites s n t.place g small)
        ∙ ap (λ (b : Bool). b && not (held s g)) (ne_eqb (names (with_name s n g) g) 0 (omega (arith, names_again s w n t small, (names_less s w n t))))

-- there is no file 0 to let go
pub orphan_none : (s : Store) → is_orphan s 0 ≡ false
unfolding is_orphan in_use
orphan_none s = refl

-- ---- a channel is closed

module _ (s : Store) (c : ℕ) (below : c < s.channel_count) (f : ℕ) (holds : (s.channel c).file ≡ f) (some : f ≢ 0) where
  abbrev closed : Store
  closed = after s (channel c no_channel)

  abbrev holders : Store → ℕ
  holders u = how_many u.channel_count (λ d. eqb (u.channel d).file f)

  -- one channel less holds its file
  holders_less : holders closed + 1 ≡ holders s
  unfolding after
  holders_less =
      let p : ℕ → Bool = λ d. eqb (s.channel d).file f in
      let q : ℕ → Bool = λ d. eqb (closed.channel d).file f in
      let change = how_many_update s.channel_count p q c below (λ d h o. sym (ap (λ (y : Channel). eqb y.file f) (channel_other s c no_channel d o))) in
      let was : tally (p c) ≡ 1 = ap tally (eq-eqb (s.channel c).file f holds) in
      let now : tally (q c) ≡ 0 = ap tally (ap (λ (y : Channel). eqb y.file f) (channel_changed s c no_channel) ∙ ne_eqb 0 f (λ e. some (sym e))) in
      omega arith

  -- close lets it go if it is ordinary, has no name, and no other channel holds it
  pub orphan_closed : is_orphan closed f ≡ in_use s f && eqb (s.file f).kind 1 && eqb (names s f) 0 && not (ltb 1 (holders s))
  unfolding is_orphan in_use names is_directory held after
  orphan_closed =
      ap (λ (b : Bool). in_use s f && eqb (s.file f).kind 1 && eqb (names s f) 0 && not b)
      (one_more (holders closed) (holders s) holders_less)
    where
      one_more : (a b : ℕ) → a + 1 ≡ b → ltb 0 a ≡ ltb 1 b
      one_more a b e =
          ⊎_elim
          (λ (z : a ≡ 0). le-ltb 0 a (omega arith) ∙ sym (le-ltb 1 b (omega arith)))
          (λ (n : a ≢ 0). lt-ltb 0 a (omega arith) ∙ sym (lt-ltb 1 b (omega arith)))
          (same_or_not a 0)
