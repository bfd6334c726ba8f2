-- A line that is put together from pieces of the input, and what the code keeps of it.
use Rattle.std.specs.Prelude.{ℕ, ◌-◌, ◌<◌, ◌≤◌, ◌≡◌, List, Bool, true, false, length, take, drop}
use Rattle.text.specs.Line.{longest_line}
use Rattle.text.specs.Print.{newline}
use Rattle.text.specs.Commands.{first_of}
use Rattle.text.specs.declared.lines.Pending.{Pending}

-- a line that is not too long is the first of the bytes that are kept; of one that is, nothing more is known
abbrev pub Kept : Bool → ℕ → List ℕ → List ℕ → Type 0
Kept true len kept line = longest_line < length line
Kept false len kept line = line ≡ take len kept

-- no more is kept than a line can have
abbrev pub Fits : Pending → Type 0
Fits p = p.long ≡ false → p.len ≤ longest_line

-- the line so far
pub record Pends (line : List ℕ) (p : Pending) : Type 0 where
  pub fits : Fits p
  pub keeps : Kept p.long p.len p.bytes line

-- what a row of bytes has of its first line: all before a newline
unfoldable pub first_line : List ℕ → List ℕ
first_line bytes = take (first_of newline bytes) bytes

-- the bytes of a piece from one place on, up to another
unfoldable pub part : List ℕ → ℕ → ℕ → List ℕ
part piece from to = take (to - from) (drop from piece)
