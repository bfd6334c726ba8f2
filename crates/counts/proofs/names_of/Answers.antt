-- The names of each file, counted over all directories: file f's are its names in the store.
use Prim.Native.Nat.{ℕ, ◌≤◌}
use mathlib.Core.Path.{◌≡◌, sym, ◌∙◌}
use mathlib.Core.List.{List}
use borrow.Author.Rules.{rules}
use lib.ListN.{get_or}
use Rattle.meaning.specs.Store.{names}
use Rattle.meaning.specs.Tables.{store_of, file_count}
use Rattle.soundness.specs.Slots.{directories_store}
use Rattle.soundness.specs.Counts.{Counts, names_summed}
use Rattle.counts.specs.OfStore.{OfStore, countable_names, number_low}
use Rattle.counts.proofs.names_of.Goals as goal

module _ (blocks records files : List ℕ) (f : ℕ) (of : OfStore blocks records files f) (counts : List ℕ)
    (counted : Counts (directories_store blocks records files) (file_count files) counts) where
  its_names : get_or counts f 0 ≡ names (directories_store blocks records files) f
  unfolding store_of
  its_names = counted.each f (number_low blocks records files f of) ∙ sym (names_summed (directories_store blocks records files) f)

pub count_names-counts-requires : goal.count_names-counts-requires
count_names-counts-requires c = let r = countable_names _ _ _ _ c.requires in record { placed = r.0; directories_kept = r.1 }

pub bounds-counts-k : goal.bounds-counts-k
bounds-counts-k c = let low : c.args.f.0 ≤ 64 = search number_low in search rules

pub returns : goal.returns
returns c = search its_names
