-- What a record of a directory may be written as.
use Rattle.std.specs.Prelude.{ℕ, ◌+◌, ◌<◌, ◌≡◌, ◌≢◌, true}
use mathlib.Core.List.{List}
use Rattle.meaning.specs.Name.{entry_in, is_written, blank_record, record_count, entry_at}
use Rattle.meaning.specs.Store.{Store, root, in_use, is_directory}

-- r names a file in use that is not the root, by a name that no other record of d has; a directory one deeper than d
pub record Names (s : Store) (d i : ℕ) (r : List ℕ) : Type 0 where
  pub is_in_use : in_use s (entry_in r).file ≡ true
  pub not_root : (entry_in r).file ≢ root
  pub written : is_written r ≡ true
  pub fresh : (j : ℕ) → j < record_count (s.file d).bytes → j ≢ i → (entry_at (s.file d).bytes j).name ≢ (entry_in r).name
  pub deeper : is_directory s (entry_in r).file ≡ true → (s.file (entry_in r).file).depth ≡ (s.file d).depth + 1

pub data NewRecord (s : Store) (d i : ℕ) (r : List ℕ) : Type 0 where
  as_blanked : r ≡ blank_record → NewRecord s d i r
  as_named : Names s d i r → NewRecord s d i r
