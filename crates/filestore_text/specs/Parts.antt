-- The input served part by part. A part may end anywhere, within a line too.
use Rattle.std.specs.Prelude.{ℕ, ◌<◌, ◌≡◌, List, [], ◌++◌, Bool, true, false, Option, IfSome, Result, OnOk, length, take}
use Rattle.std.specs.Option.{unwrap_or}
use Rattle.std.specs.Io.KnownBytes.{Appends}
use Rattle.meaning.specs.Tables.{Tables, tables}
use Rattle.text.specs.Print.{transcript}
use Rattle.text.specs.Program.{completed, remaining, unended, lines, after_lines, at_start}
use Rattle.text.specs.Gathering.{Pends}
use Rattle.text.specs.declared.lines.Pending.{Pending}
use Rattle.filestore_text.specs.declared.Store.{Store}
use Rattle.filestore_text.specs.declared.buffer.Output.{Output}

-- the tables of the program's store
abbrev pub tables_in : Store → Tables
tables_in store = tables store.blocks store.block_records store.file_records store.channel_records

-- what is printed and not yet written
abbrev pub waiting : Output → List ℕ
waiting out = take out.at out.bytes

-- A part of the input served, from one moment to a later one. Whatever line has come before the part: the tables are those that
-- the lines that end in it leave, what they print stands behind what was printed, and what is left of the part is the line so far.
pub record ServesPart (bytes : List ℕ) (p : Pending) (t : Tables) (printed : List ℕ) (p' : Pending) (t' : Tables) (printed' : List ℕ) : Type 0 where
  pub pends : (line : List ℕ) → Pends line p → Pends (remaining line bytes) p'
  pub leaves : (line : List ℕ) → Pends line p → t' ≡ after_lines (completed line bytes) t
  pub prints : (line : List ℕ) → Pends line p → printed' ≡ printed ++ transcript (completed line bytes) t

-- A step through a piece: a part at its head is served, behind which `rest` is left. What is printed waits in the output.
pub record Steps (piece : List ℕ) (p : Pending) (t : Tables) (out : List ℕ) (p' : Pending) (t' : Tables) (out' : List ℕ) (rest : Option (List ℕ)) : Type 0 where
  pub part : List ℕ
  pub all : piece ≡ part ++ unwrap_or rest []
  pub serves : ServesPart part p t out p' t' out'
  pub moves : IfSome rest (λ bytes. length bytes < length piece)

-- The line that the input's end ends, if there is one, is served.
pub record PrintsLast (p : Pending) (t : Tables) (out : List ℕ) (t' : Tables) (out' : List ℕ) : Type 0 where
  pub leaves : (line : List ℕ) → Pends line p → t' ≡ after_lines (unended line) t
  pub prints : (line : List ℕ) → Pends line p → out' ≡ out ++ transcript (unended line) t

-- ---- handed to write, and written: bytes that a writer holds are known at both moments, or nothing is said of them

-- A part served by any number of steps, each of which hands its output to write: `handed` is all of it, one step's behind another's.
-- No value of the program holds that row, so it is only said to be there; what one step hands over is what waits in the output (`Steps`).
pub record Hands (bytes : List ℕ) (p : Pending) (t : Tables) (p' : Pending) (t' : Tables) : Type 0 where
  pub handed : List ℕ
  pub serves : ServesPart bytes p t [] p' t' handed

-- what waited in the output is written, up to what waits still
pub record WritesSome (held : Option (List ℕ)) (out : List ℕ) (held' : Option (List ℕ)) (out' : List ℕ) : Type 0 where
  pub written : List ℕ
  pub appends : Appends held held' written
  pub all : out ≡ written ++ out'

-- A piece served up to a place, behind which `rest` is left: to its end, and with all that is handed to write written, where no write fails.
-- A failed write ends it earlier, and the bytes up to there are served all the same.
pub record ServesPiece {E : Type 0} (piece rest : List ℕ) (p : Pending) (t : Tables) (p' : Pending) (t' : Tables) (held held' : Option (List ℕ)) (r : Result (Unit {0}) E) : Type 0 where
  pub part : List ℕ
  pub all : piece ≡ part ++ rest
  pub whole : OnOk r (rest ≡ [])
  pub hands : Hands part p t p' t'
  pub writes : OnOk r (Appends held held' hands.handed)

-- The line that the input's end ends, if there is one, is served, and written where no write fails.
pub record ServesLast {E : Type 0} (p : Pending) (t t' : Tables) (held held' : Option (List ℕ)) (r : Result (Unit {0}) E) : Type 0 where
  pub leaves : (line : List ℕ) → Pends line p → t' ≡ after_lines (unended line) t
  pub writes : (line : List ℕ) → Pends line p → OnOk r (Appends held held' (transcript (unended line) t))

-- ---- all of the input

-- the lines that are served: all of them where the input has ended, else those that end in what came of it
abbrev pub served_of : Bool → List ℕ → List (List ℕ)
served_of true input = lines input
served_of false input = completed [] input

-- `input` is all that was read and served, and `handed` all that was handed to write (`written input` where it has ended). Both are only said to be there.
-- Where it is known which bytes a reader has left and a writer holds, `ServesGiven` says that what is served was read, and `MovesAll` what is written.
pub record ServesInput (t : Tables) (ended : Bool) : Type 0 where
  pub input : List ℕ
  pub handed : List ℕ
  pub leaves : t ≡ after_lines (served_of ended input) at_start
  pub prints : handed ≡ transcript (served_of ended input) at_start
