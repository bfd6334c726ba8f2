-- Seek: what its decision stands for.
use Rattle.std.specs.Prelude.{ℕ, ◌<◌, [], ◌∷◌, Result as Answers}
use Rattle.meaning.specs.Store.{channel, channel_to}
use Rattle.meaning.specs.Tables.{Tables, channel_count}
use Rattle.meaning.specs.Result.{Result, done}
use Rattle.meaning.specs.Run.{Call, result_of}
use Rattle.meaning.specs.Decisions.{Decides}
use Rattle.meaning.specs.declared.Report.{Report}
use Rattle.tables.specs.declared.ChannelRecord.{ChannelRecord}

-- the result that a channel's moved record stands for
abbrev pub planned : ℕ → ChannelRecord → Result
planned c y = done (y.position ∷ []) [] (channel c (channel_to y.file.0 y.position) ∷ [])

-- the record that it has written is one of the table's
abbrev pub Inside : Tables → ℕ → ChannelRecord → Type 0
Inside t c y = c < channel_count t.channel_records

abbrev pub Decided : Tables → ℕ → ℕ → ℕ → Answers ChannelRecord Report → Type 0
Decided t c mode n = Decides (planned c) (Inside t c) (result_of (Call.Seek c mode n) t)
