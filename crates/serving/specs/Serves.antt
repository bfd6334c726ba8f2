-- What it is to carry out a command: the tables afterwards, and the printed line with its newline.
use Rattle.std.specs.Prelude.{ℕ, ◌≤◌, ◌≡◌, List, [], ◌∷◌, ◌++◌, Option, length}
use Rattle.meaning.specs.Tables.{Tables}
use Rattle.meaning.specs.Run.{Call}
use Rattle.text.specs.Lays.{Lays}
use Rattle.text.specs.Line.{asked}
use Rattle.text.specs.Gathering.{Pends}
use Rattle.text.specs.declared.lines.Pending.{Pending}
use Rattle.text.specs.Print.{served_as, newline}

-- room enough for any line: a read or a listing prints 2,048 bytes in hex
abbrev pub line_room : ℕ
line_room = 4200

pub record Serves (call : Option Call) (t : Tables) (out : List ℕ) (at : ℕ) (t' : Tables) (after : List ℕ) (next : ℕ) : Type 0 where
  pub leaves : t' ≡ (served_as call t).tables
  pub lays : Lays out at ((served_as call t).prints ++ newline ∷ []) after next

-- the same of a line that has been put together
pub record ServesLine (p : Pending) (t : Tables) (out : List ℕ) (at : ℕ) (t' : Tables) (after : List ℕ) (next : ℕ) : Type 0 where
  pub serves : (bytes : List ℕ) → Pends bytes p → Serves (asked bytes) t out at t' after next
  pub fits : next ≤ length after
