-- A name taken from the left, one syllable at a time (01, "Names").
use Rattle.std.specs.Prelude.{ℕ, zero, suc, ◌+◌, ◌-◌, ◌≤◌, ◌≡◌, List, [], ◌∷◌, true, ◌&&◌, length, take, drop, get_or, leb, ltb}
use Rattle.std.proofs.Math.Option.{Option, none, some}
use Rattle.std.specs.Prelude.{Option as Answer, Some, None}
use Rattle.records.specs.Rows.{pick, lowest, every}
use Rattle.meaning.specs.Name.{most_syllables, is_syllable, split}
use Rattle.paths.specs.Taking.{is_slash, syllable_end}

-- the bytes from one place up to another
unfoldable pub part : List ℕ → ℕ → ℕ → List ℕ
part bytes from to = take (to - from) (drop from bytes)

-- what stands between the slashes behind a syllable's end: nothing where that is the name's end
unfoldable pub rest_from : List ℕ → ℕ → List (List ℕ)
rest_from bytes end = let rest = split (drop (end + 1) bytes) in pick (ltb end (length bytes)) rest []

-- the next n syllables from a place on, each behind the slash that ends the one before it
unfoldable pub syllables_from : List ℕ → ℕ → ℕ → List (List ℕ)
syllables_from bytes at zero = []
syllables_from bytes at (suc n) = part bytes at (syllable_end bytes at) ∷ syllables_from bytes (syllable_end bytes at + 1) n

-- there are n syllables from a place on, each well formed, and each starts within the name
unfoldable pub Reaches : List ℕ → ℕ → ℕ → Type 0
Reaches bytes at zero = Unit
Reaches bytes at (suc n) =
    (at ≤ length bytes) × (is_syllable (part bytes at (syllable_end bytes at)) ≡ true) × Reaches bytes (syllable_end bytes at + 1) n

-- where syllable k starts: the first behind the first slash, each other behind the one before it
unfoldable pub place_of : List ℕ → ℕ → ℕ
place_of bytes zero = 1
place_of bytes (suc k) = syllable_end bytes (place_of bytes k) + 1

-- where the last syllable starts: behind the last slash
unfoldable pub last_start : List ℕ → ℕ
last_start bytes = length bytes - lowest (length bytes) (λ i. is_slash bytes (length bytes - 1 - i))

-- how many syllables a name has; none where it is not written as a name
unfoldable pub form_of : Option (List (List ℕ)) → Answer ℕ
form_of none = None
form_of (some name) = Some (length name)

-- the form of k syllables followed by some pieces
unfoldable pub form_with : ℕ → List (List ℕ) → Answer ℕ
form_with k pieces =
    pick (leb (k + length pieces) most_syllables && every (length pieces) (λ i. is_syllable (get_or pieces i []))) (Some (k + length pieces)) None
