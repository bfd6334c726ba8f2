-- A record of a directory may change so that every directory keeps its name.
use Rattle.std.specs.Prelude.{ℕ, ◌<◌, ◌≡◌, ◌≢◌, false}
use mathlib.Core.List.{List}
use Rattle.meaning.specs.Name.{entry_in, record_count, is_blank, entry_at}
use Rattle.meaning.specs.Store.{Store, is_directory}
use Rattle.trees.specs.Rewrite.{Rewriting}

-- it named no directory, and no other record has the name that it gets
pub record KeepsDirectories (s : Store) (d i : ℕ) (r : List ℕ) : Type 0 where
  pub rewriting : Rewriting s d i r
  pub old : is_directory s (entry_at (s.file d).bytes i).file ≡ false
  pub fresh : (j : ℕ) → j < record_count (s.file d).bytes → j ≢ i → is_blank (s.file d).bytes j ≡ false
      → (entry_at (s.file d).bytes j).name ≢ (entry_in r).name
