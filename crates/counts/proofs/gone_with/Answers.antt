-- Each return is a case of the definition, by the tests that led there.
use Prim.Native.Nat.{ℕ}
use mathlib.Core.Path.{◌≡◌, sym, ◌∙◌}
use mathlib.Core.Logic.{◌≢◌}
use mathlib.Core.List.{List}
use mathlib.Core.Bool.{Bool, true, false}
use lib.Dec.{ltb}
use borrow.Author.Tests.{ne_eqb}
use Rattle.meaning.specs.Store.{Store, names}
use Rattle.std.specs.Prelude.{None}
use Rattle.meaning.specs.Types.{file_numbered, none-numbered}
use Rattle.meaning.specs.Tables.{tables, store_of}
use Rattle.tables.specs.Searches.{channels_with}
use Rattle.tables.specs.StoreLaws.{held-channels}
use Rattle.soundness.specs.Slots.{directories_store}
use Rattle.lookup.specs.Filed.{names-seen}
use Rattle.counts.specs.Gone.{gone_with}
use Rattle.counts.proofs.gone_with.Goals as goal

module _ (b br fr cr : List ℕ) (f m : ℕ) (counted : m ≡ names (directories_store b br fr) f) where
  abbrev s : Store
  s = store_of (tables b br fr cr)

  its_names : names s f ≡ m
  its_names = names-seen b br fr cr f ∙ sym counted

  more_names : m ≢ 1 → None ≡ file_numbered (gone_with s f)
  unfolding gone_with
  more_names d = none-numbered _ (rw (its_names, ne_eqb m 1 d))

  module _ (one : m ≡ 1) (v : Bool) (e : v ≡ ltb 0 (channels_with cr f)) where
    still_held : v ≡ true → None ≡ file_numbered (gone_with s f)
    unfolding gone_with
    still_held so = none-numbered _ (rw (its_names, one, held-channels (tables b br fr cr) f, ← e, so))

    not_held : v ≡ false → file_numbered f ≡ file_numbered (gone_with s f)
    unfolding gone_with
    not_held so = rw (its_names, one, held-channels (tables b br fr cr) f, ← e, so)

pub returns-then-names_of-ne1 : goal.returns-then-names_of-ne1
returns-then-names_of-ne1 c = more_names _ _ _ _ _ _ c.names_of.ensures c.if-names_of-ne1.true

pub returns-then-is_held : goal.returns-then-is_held
returns-then-is_held c = still_held _ _ _ _ _ _ c.names_of.ensures c.if-names_of-ne1.false _ c.is_held.ensures c.if-is_held.true

pub returns : goal.returns
returns c = c.or_none.ensures ∙ not_held _ _ _ _ _ _ c.names_of.ensures c.if-names_of-ne1.false _ c.is_held.ensures c.if-is_held.false
