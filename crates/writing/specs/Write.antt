-- Write: what its decision stands for, whatever the bytes that are written.
use Rattle.std.specs.Prelude.{ℕ, ◌+◌, ◌≤◌, ◌<◌, ◌≡◌, List, [], ◌∷◌, length, Result as Answers}
use Rattle.meaning.specs.File.{writeFILE, longest}
use Rattle.meaning.specs.Store.{file, channel, channel_to, ordinary}
use Rattle.meaning.specs.Tables.{Tables, store_of, channel_count}
use Rattle.meaning.specs.Result.{Result, done}
use Rattle.meaning.specs.Decisions.{Decides}
use Rattle.meaning.specs.declared.Report.{Report}
use Rattle.meaning.specs.Run.{Call, result_of}
use Rattle.tables.specs.declared.ChannelRecord.{ChannelRecord}
use Rattle.files.specs.Files.{Writable}

-- file f with the bytes written from byte `at` on; it is ordinary
abbrev pub written : Tables → ChannelRecord → List ℕ → List ℕ
written t y bytes = writeFILE ((store_of t).file y.file.0).bytes y.position bytes

-- the result that a decision to write stands for
abbrev pub planned : Tables → ℕ → List ℕ → ChannelRecord → Result
planned t c bytes y =
    done (length bytes ∷ []) [] (file y.file.0 (ordinary (written t y bytes)) ∷ channel c (channel_to y.file.0 (y.position + length bytes)) ∷ [])

-- n bytes can be written on a channel: its record is one of the table's, its file ordinary, and there is room
pub record Ready (t : Tables) (c n : ℕ) (y : ChannelRecord) : Type 0 where
  pub below : c < channel_count t.channel_records
  pub near : y.position + n ≤ longest
  pub kind : ((store_of t).file y.file.0).kind ≡ 1
  pub depth : ((store_of t).file y.file.0).depth ≡ 0
  pub writable : (bytes : List ℕ) → length bytes ≡ n → Writable t.blocks t.block_records t.file_records y.file.0 y.position bytes

-- whatever the n bytes are
abbrev pub Decided : Tables → ℕ → ℕ → Answers ChannelRecord Report → Type 0
Decided t c n d = (bytes : List ℕ) → length bytes ≡ n → Decides (planned t c bytes) (Ready t c n) (result_of (Call.Write c bytes) t) d
