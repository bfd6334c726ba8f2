-- Rows of indices below a number: the lowest that passes a test, whether every one passes, how many pass, a sum,
-- and the list that a rule makes of them. Every search, test and count of the store is one of these.
use Rattle.std.specs.Prelude.{ℕ, zero, suc, ◌+◌, List, [], ◌∷◌, Bool, true, false, not, ◌&&◌, Option, Some, None, ltb}

-- the one or the other, by a test
abbrev pub pick {ℓ} : {A : Type ℓ} → Bool → A → A → A
pick true a b = a
pick false a b = b

-- both tests pass, or neither does
abbrev pub agree : Bool → Bool → Bool
agree true t = t
agree false t = not t

-- each of some rules holds
unfoldable pub all_of : List Bool → Bool
all_of [] = true
all_of (rule ∷ rules) = rule && all_of rules

-- the lowest index from i on that passes, or i + n where none of n does
unfoldable pub lowest_from : ℕ → ℕ → (ℕ → Bool) → ℕ
lowest_from i zero p = i
lowest_from i (suc n) p = let later = lowest_from (suc i) n p in pick (p i) i later

-- the lowest index below n that passes, or n where none does
unfoldable pub lowest : ℕ → (ℕ → Bool) → ℕ
lowest n p = lowest_from 0 n p

-- the same as an option: none where no index passes
unfoldable pub found_below : ℕ → ℕ → Option ℕ
found_below n i = pick (ltb i n) (Some i) None

unfoldable pub lowest_below : ℕ → (ℕ → Bool) → Option ℕ
lowest_below n p = found_below n (lowest n p)

-- every index below n passes
unfoldable pub every : ℕ → (ℕ → Bool) → Bool
every zero p = true
every (suc n) p = every n p && p n

-- g 0 + g 1 + .., n terms
unfoldable pub sum : ℕ → (ℕ → ℕ) → ℕ
sum zero g = 0
sum (suc n) g = sum n g + g n

-- 1 for a test that passes, 0 for one that fails
abbrev pub tally : Bool → ℕ
tally t = pick t 1 0

-- how many indices below n pass
unfoldable pub how_many : ℕ → (ℕ → Bool) → ℕ
how_many n p = sum n (λ i. tally (p i))

module _ {A : Type 0} where
  -- g i, g (i + 1), .., n of them
  unfoldable pub list_from : ℕ → ℕ → (ℕ → A) → List A
  list_from i zero g = []
  list_from i (suc n) g = g i ∷ list_from (suc i) n g

  -- g 0, g 1, .., n of them
  unfoldable pub list_of : ℕ → (ℕ → A) → List A
  list_of n g = list_from 0 n g
