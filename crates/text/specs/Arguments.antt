-- What the code reads of a line's arguments: each with what follows it.
use Rattle.std.specs.Prelude.{ℕ, List, Option, None, Some}
use Rattle.std.specs.Option.{option_copied}
use Rattle.std.specs.Borrow.{Bor}
use Rattle.meaning.specs.Run.{Call}

-- what is made of a word and of what follows it
abbrev pub taken : Option (Bor (List ℕ) × Option (Bor (List ℕ))) → (List ℕ → Option (List ℕ) → Option Call) → Option Call
taken None k = None
taken (Some word) k = k word.0.now (option_copied word.1)

-- and of a number
abbrev pub counted : Option (ℕ × Option (Bor (List ℕ))) → (ℕ → Option (List ℕ) → Option Call) → Option Call
counted None k = None
counted (Some n) k = k n.0 (option_copied n.1)
