-- Open: what its plan stands for.
use Rattle.std.specs.Prelude.{ℕ, ◌<◌, List, [], ◌∷◌, Result as Answers}
use Rattle.meaning.specs.Store.{channel, channel_to}
use Rattle.meaning.specs.Tables.{Tables, channel_count}
use Rattle.meaning.specs.Result.{Result, done}
use Rattle.meaning.specs.Run.{Call, result_of}
use Rattle.meaning.specs.Decisions.{Decides}
use Rattle.meaning.specs.declared.ChannelNo.{ChannelNo}
use Rattle.meaning.specs.declared.FileNo.{FileNo}
use Rattle.meaning.specs.declared.Report.{Report}

-- the result of a channel opened to a file
abbrev pub planned : ChannelNo × FileNo → Result
planned (c, f) = done (c.0 ∷ []) [] (channel c.0 (channel_to f.0 0) ∷ [])

-- the channel is one of the table's
abbrev pub Inside : Tables → ChannelNo × FileNo → Type 0
Inside t (c, f) = c.0 < channel_count t.channel_records

abbrev pub Decided : Tables → List ℕ → Answers (ChannelNo × FileNo) Report → Type 0
Decided t bytes = Decides planned (Inside t) (result_of (Call.Open bytes) t)
