-- The form of what follows each word of the code.
use Rattle.std.specs.Prelude.{ℕ, List, Option, None, Some}
use Rattle.meaning.specs.Run.{Call}
use Rattle.text.specs.Line.{nothing, a_name, two_names, a_number, last_number, reading, the_data, lent_bytes}
use Rattle.text.specs.declared.words.Word.{Word}
use Rattle.text.specs.declared.words.Word.TheVariants as W

unfoldable pub to_read : Option (List ℕ) → Option Call
to_read = a_number λ c. a_number (reading c)

unfoldable pub to_write : Option (List ℕ) → Option Call
to_write = a_number λ c. the_data (Call.Write c)

unfoldable pub to_seek : Option (List ℕ) → Option Call
to_seek = a_number λ c. a_number λ mode. last_number (Call.Seek c mode)

-- none follows where there is no word
abbrev pub call_of : Option Word → Option (List ℕ) → Option Call
call_of None rest = None
call_of (Some W.Prepare) rest = nothing Call.Prepare rest
call_of (Some W.Create) rest = a_name Call.Create rest
call_of (Some W.Open) rest = a_name Call.Open rest
call_of (Some W.Close) rest = last_number Call.Close rest
call_of (Some W.Read) rest = to_read rest
call_of (Some W.Write) rest = to_write rest
call_of (Some W.Seek) rest = to_seek rest
call_of (Some W.Fstat) rest = last_number Call.Fstat rest
call_of (Some W.Link) rest = two_names Call.Link rest
call_of (Some W.Unlink) rest = a_name Call.Unlink rest
call_of (Some W.Move) rest = two_names Call.Move rest
call_of (Some W.Ls) rest = a_name (λ name. Call.Ls name lent_bytes) rest
call_of (Some W.Mkdir) rest = a_name Call.Mkdir rest
call_of (Some W.Rmdir) rest = a_name Call.Rmdir rest
call_of (Some W.Room) rest = nothing Call.Room rest
