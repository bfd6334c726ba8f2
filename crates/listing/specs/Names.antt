-- The names in records, off the block table: how many, and laid out one after another.
use Rattle.std.specs.Prelude.{ℕ, zero, suc, ◌+◌, ◌*◌, List, [], ◌++◌, not, take, drop}
use Rattle.records.specs.Rows.{pick, how_many}
use Rattle.directories.specs.Places.{record_place}
use Rattle.directories.specs.Find.{blank_at}

-- g 0, g 1, .., n rows, one after another
unfoldable pub rows : ℕ → (ℕ → List ℕ) → List ℕ
rows zero g = []
rows (suc n) g = rows n g ++ g n

-- the 14 bytes of a name in the record that starts at a place; nothing of a blank record
unfoldable pub name_at : List ℕ → ℕ → List ℕ
name_at blocks at = pick (blank_at blocks at) [] (take 14 (drop (at + 2) blocks))

-- n records from a place on: how many are not blank, and their names
unfoldable pub run_count : List ℕ → ℕ → ℕ → ℕ
run_count blocks at n = how_many n (λ j. not (blank_at blocks (at + 16 * j)))

unfoldable pub run_names : List ℕ → ℕ → ℕ → List ℕ
run_names blocks at n = rows n (λ j. name_at blocks (at + 16 * j))

-- the records of directory d: how many are not blank, and their names
unfoldable pub place_count : List ℕ → List ℕ → ℕ → ℕ → ℕ
place_count blocks records d count = how_many count (λ i. not (blank_at blocks (record_place records d i)))

unfoldable pub place_names : List ℕ → List ℕ → ℕ → ℕ → List ℕ
place_names blocks records d count = rows count (λ i. name_at blocks (record_place records d i))
