-- The program as a whole: what it writes for what it reads (01, "Figures to meet").
use Rattle.std.specs.Prelude.{ℕ, ◌*◌, List, [], ◌∷◌, ◌++◌, replicate, eqb}
use Rattle.records.specs.Rows.{pick}
use Rattle.meaning.specs.Store.{prepared}
use Rattle.meaning.specs.Tables.{Tables, tables, put}
use Rattle.text.specs.Print.{served, transcript, newline}

-- a line that the input's end ends; nothing after the last newline is no line
unfoldable pub unended : List ℕ → List (List ℕ)
unended [] = []
unended (b ∷ line) = (b ∷ line) ∷ []

-- the lines that end in a part of the input, of which `line` has come before: only a newline ends a line
unfoldable pub completed : List ℕ → List ℕ → List (List ℕ)
completed line [] = []
completed line (b ∷ part) =
    let next = completed [] part in
    let same = completed (line ++ b ∷ []) part in
    pick (eqb b newline) (line ∷ next) same

-- the line that has not ended behind them
unfoldable pub remaining : List ℕ → List ℕ → List ℕ
remaining line [] = line
remaining line (b ∷ part) =
    let next = remaining [] part in
    let same = remaining (line ++ b ∷ []) part in
    pick (eqb b newline) next same

-- the lines of the input
unfoldable pub lines : List ℕ → List (List ℕ)
lines input = completed [] input ++ unended (remaining [] input)

-- the tables after a row of lines
unfoldable pub after_lines : List (List ℕ) → Tables → Tables
after_lines [] t = t
after_lines (line ∷ lines) t = let s = served line t in after_lines lines s.tables

-- a store of 4 blocks, 4 files and 2 channels, prepared before the first line
unfoldable pub at_start : Tables
at_start = put (tables (replicate (512 * 4) 0) (replicate (4 * 4) 0) (replicate (8 * 4) 0) (replicate (8 * 2) 0)) prepared

-- all that the program writes for all that it reads
unfoldable pub written : List ℕ → List ℕ
written input = transcript (lines input) at_start
