-- Close: what its decision stands for.
use Rattle.std.specs.Prelude.{ℕ, ◌<◌, [], ◌∷◌, Option, Some, None, Result as Answers}
use Rattle.meaning.specs.Store.{file, channel, no_file, no_channel}
use Rattle.meaning.specs.Tables.{Tables, channel_count}
use Rattle.meaning.specs.Result.{Result, done}
use Rattle.meaning.specs.Run.{Call, result_of}
use Rattle.meaning.specs.Decisions.{Decides}
use Rattle.meaning.specs.declared.FileNo.{FileNo}
use Rattle.meaning.specs.declared.Report.{Report}
use Rattle.files.specs.Files.{Clearable}

-- the result of a channel closed, alone or with its file
abbrev pub planned : ℕ → Option FileNo → Result
planned c None = done [] [] (channel c no_channel ∷ [])
planned c (Some f) = done [] [] (channel c no_channel ∷ file f.0 no_file ∷ [])

-- the file that goes can be cleared
abbrev pub CanGo : Tables → Option FileNo → Type 0
CanGo t None = Unit {0}
CanGo t (Some f) = Clearable t.block_records t.file_records f.0

-- the records that it has written are the tables'
pub record Inside (t : Tables) (c : ℕ) (gone : Option FileNo) : Type 0 where
  pub below : c < channel_count t.channel_records
  pub can_go : CanGo t gone

abbrev pub Closes : Tables → ℕ → Answers (Option FileNo) Report → Type 0
Closes t c = Decides (planned c) (Inside t c) (result_of (Call.Close c) t)
