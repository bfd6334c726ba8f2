-- A command, as the code reads it off a line, and the call that it stands for.
use Rattle.std.specs.Prelude.{ℕ, ◌+◌, List, Option, None, Some, option_map, length, drop, ltb, eqb}
use Rattle.records.specs.Rows.{pick, lowest}
use Rattle.records.specs.Numbers.{one}
use Rattle.meaning.specs.Run.{Call, Prepare, Room, Create, Open, Unlink, Mkdir, Rmdir, Link, Move, Ls, Close, Fstat, Read, Write, Seek}
use Rattle.text.specs.Line.{lent_bytes}
use Rattle.text.specs.declared.Command.{Command}
use Rattle.text.specs.declared.Command.TheVariants as C

-- where a byte stands first in a row, or the row's end
unfoldable pub first_of : ℕ → List ℕ → ℕ
first_of b bytes = lowest (length bytes) (λ i. eqb (one bytes i) b)

-- what stands behind it; none where it does not stand there
unfoldable pub behind : ℕ → List ℕ → Option (List ℕ)
behind b bytes = pick (ltb (first_of b bytes) (length bytes)) (Some (drop (first_of b bytes + 1) bytes)) None

-- the call that a command stands for
abbrev pub command_call : Command → Call
command_call C.Prepare = Prepare
command_call C.Room = Room
command_call (C.Create name) = Create name.now
command_call (C.Open name) = Open name.now
command_call (C.Unlink name) = Unlink name.now
command_call (C.Mkdir name) = Mkdir name.now
command_call (C.Rmdir name) = Rmdir name.now
command_call (C.Link old new) = Link old.now new.now
command_call (C.Move old new) = Move old.now new.now
command_call (C.Ls name) = Ls name.now lent_bytes
command_call (C.Close c) = Close c
command_call (C.Fstat c) = Fstat c
command_call (C.Read c count) = Read c count
command_call (C.Write c bytes) = Write c bytes.now
command_call (C.Seek c mode n) = Seek c mode n

-- the same of what a line asks for
abbrev pub commanded : Option Command → Option Call
commanded = option_map command_call
