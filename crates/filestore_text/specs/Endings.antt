-- How a run of the program ends, and what was read and written then.
use Rattle.std.specs.Prelude.{ℕ, ◌≡◌, List, [], ◌++◌, Option, IfSome, Bool, true, false}
use Rattle.std.specs.Io.KnownBytes.{Appends, Consumes, IsAtEnd}
use Rattle.meaning.specs.Tables.{Tables}
use Rattle.text.specs.Program.{lines, written, after_lines, at_start}
use Rattle.filestore_text.specs.Parts.{served_of}
use Rattle.filestore_text.specs.declared.Ending.{Ending}
use Rattle.filestore_text.specs.declared.Ending.TheVariants.{Written, Unwritten, Cut}

-- the input has ended, and all of it is served
abbrev pub all_served : Ending → Bool
all_served Written = true
all_served Unwritten = true
all_served Cut = false

-- What is served is what was read, however the run ends: the reader gave `input`, which is served, and behind it `rest`, which a failed write leaves of a piece.
-- Where the input has ended nothing is left.
pub record ServesGiven (given given' : Option (List ℕ)) (t : Tables) (ended : Bool) : Type 0 where
  pub input : List ℕ
  pub rest : List ℕ
  pub reads : Consumes given given' (input ++ rest)
  pub leaves : t ≡ after_lines (served_of ended input) at_start
  pub whole : ended ≡ true → (rest ≡ []) × IsAtEnd given'

-- what is true where all is written too
abbrev pub OnWritten : Ending → Type 0 → Type 0
OnWritten Written A = A
OnWritten Unwritten A = Unit {0}
OnWritten Cut A = Unit {0}

-- All that the reader gives is served, and the writer holds behind what it held all that the program writes for it.
pub record MovesAll (given held held' : Option (List ℕ)) (t : Tables) : Type 0 where
  pub leaves : IfSome given (λ input. t ≡ after_lines (lines input) at_start)
  pub writes : IfSome given (λ input. Appends held held' (written input))
