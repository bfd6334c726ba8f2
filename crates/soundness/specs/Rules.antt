-- Rules as the code meets them, of the numbers that it has read.
use Rattle.std.specs.Prelude.{ℕ, suc, ◌+◌, ◌%◌, ◌≤◌, ◌<◌, ◌≡◌, List, Bool, not, ◌&&◌, ◌||◌, length, get_or, ltb, leb, eqb}
use Rattle.records.specs.Rows.{agree, every, how_many}
use Rattle.meaning.specs.File.{longest}
use Rattle.meaning.specs.Name.{entry_at, is_blank, same}
use Rattle.meaning.specs.Store.{Store, root, in_use, is_directory, held}
use Rattle.meaning.specs.Sound.{between, record_sound}
use Rattle.tables.specs.Searches.{blocks_with}
use Rattle.soundness.specs.Slots.{slot, Within}

-- file f may be a directory of a depth and a size: the first, and no other, has depth 0
unfoldable pub directory_form : ℕ → ℕ → ℕ → Bool
directory_form f depth size = leb depth 7 && leb size longest && eqb (size % 16) 0 && agree (eqb f root) (eqb depth 0)

-- each of the first n places of file f has exactly one block
unfoldable pub placed_below : List ℕ → ℕ → ℕ → Bool
placed_below records f n = every n (λ i. eqb (blocks_with records f i) 1)

-- a count is from 1 up to a most
unfoldable pub counts_to : ℕ → ℕ → Bool
counts_to n most = between 1 most n

-- a directory f that a record of a directory of a depth names is one deeper
unfoldable pub deeper_than : Store → ℕ → ℕ → Bool
deeper_than s depth f = not (is_directory s f) || eqb (s.file f).depth (depth + 1)

-- ---- of a directory whose records lie in the block table, by the row of its blocks

-- no record before record i has its name, if it has one
unfoldable pub new_at : List ℕ → List ℕ → ℕ → Bool
new_at blocks starts i =
    is_blank blocks (slot starts i)
    || every i (λ j. not (same (entry_at blocks (slot starts j)).name (entry_at blocks (slot starts i)).name))

-- every record is sound, every name new, and every directory that is named one deeper
unfoldable pub records_at : Store → List ℕ → List ℕ → ℕ → Bool
records_at s blocks starts n = every n (λ i. record_sound s blocks (slot starts i))

unfoldable pub names_at : List ℕ → List ℕ → ℕ → Bool
names_at blocks starts n = every n (new_at blocks starts)

unfoldable pub deeper_at : Store → List ℕ → List ℕ → ℕ → ℕ → Bool
deeper_at s blocks starts depth n = every n (λ i. deeper_than s depth (entry_at blocks (slot starts i)).file)

-- ---- names counted, file by file

-- record i of a directory names file f
abbrev pub names-at : List ℕ → List ℕ → ℕ → ℕ → Bool
names-at blocks starts f i = eqb (entry_at blocks (slot starts i)).file f

-- a row of counts, one for each file number up to 64, with what n records of a directory add
pub record Counted (blocks starts : List ℕ) (n : ℕ) (old new : List ℕ) : Type 0 where
  pub size : length new ≡ 65
  pub each : (f : ℕ) → f ≤ 64 → get_or new f 0 ≡ get_or old f 0 + how_many n (names-at blocks starts f)

-- each of the first n records of a directory names a file number up to 64, and no count is high
pub record Countable (blocks starts : List ℕ) (n : ℕ) (counts : List ℕ) : Type 0 where
  pub size : length counts ≡ 65
  pub within : Within blocks starts n
  pub numbers : (i : ℕ) → i < n → (entry_at blocks (slot starts i)).file ≤ 64
  pub low : (f : ℕ) → f ≤ 64 → get_or counts f 0 ≤ 131072

-- file f has the names or the channel that it needs, where n records name it
unfoldable pub is_named_by : Store → ℕ → ℕ → Bool
is_named_by s n f =
    not (in_use s f)
    || eqb f root
    || (is_directory s f && eqb n 1)
    || (not (is_directory s f) && (ltb 0 n || held s f))

-- the same by a row of counts; and every file has
unfoldable pub named_by : Store → List ℕ → ℕ → Bool
named_by s counts f = is_named_by s (get_or counts f 0) f

unfoldable pub all_named_by : Store → List ℕ → Bool
all_named_by s counts = every s.file_count (λ r. named_by s counts (suc r))
