-- Create: what its plan stands for.
use Rattle.std.specs.Prelude.{ℕ, ◌≤◌, ◌<◌, ◌≡◌, List, [], ◌∷◌, true, length, Result as Answers}
use Rattle.meaning.specs.Name.{is_syllable}
use Rattle.meaning.specs.Store.{file, channel, channel_to, ordinary}
use Rattle.meaning.specs.NameCalls.{rewritten}
use Rattle.meaning.specs.Tables.{Tables, store_of, file_count, channel_count}
use Rattle.meaning.specs.Result.{Result, done}
use Rattle.meaning.specs.Run.{Call, result_of}
use Rattle.meaning.specs.Decisions.{Decides}
use Rattle.meaning.specs.declared.FileNo.{FileNo}
use Rattle.meaning.specs.declared.Report.{Report}
use Rattle.names.specs.Syllables.{part, last_start}
use Rattle.lookup.specs.Filed.{filed}
use Rattle.files.specs.Files.{Clearable}
use Rattle.naming.specs.Judged.{Spelled}
use Rattle.naming.specs.Located.{Locates}
use Rattle.naming.specs.declared.Located.TheVariants as L
use Rattle.recording.specs.Recording.{record_of, Rewritable}
use Rattle.opening.specs.declared.Creation.{Creation}
use Rattle.opening.specs.declared.Creation.TheVariants.{Old, New}

-- a name of a sound store, which is new in directory d
pub record NewName (t : Tables) (bytes : List ℕ) (d : FileNo) : Type 0 where
  pub k : ℕ
  pub spelled : Spelled t bytes k
  pub located : Locates (filed t.blocks t.block_records t.file_records) bytes (L.New d)

-- the result that a plan stands for
abbrev pub planned_new : Tables → List ℕ → Creation → Result
planned_new t bytes (Old c f) = done (c.0 ∷ []) [] (file f.0 (ordinary []) ∷ channel c.0 (channel_to f.0 0) ∷ [])
planned_new t bytes (New c f d i) =
    done (c.0 ∷ []) []
    (file d.0 (rewritten (store_of t) d.0 i (record_of f.0 bytes)) ∷ file f.0 (ordinary []) ∷ channel c.0 (channel_to f.0 0) ∷ [])

-- file f can be emptied, and channel c is one of the table's
pub record Empties (t : Tables) (c f : ℕ) : Type 0 where
  pub below : c < channel_count t.channel_records
  pub clearable : Clearable t.block_records t.file_records f

-- record i of directory d can be given to file f by the name's last syllable, file f made, and channel c is one of the table's
pub record Makes (t : Tables) (bytes : List ℕ) (c f d i : ℕ) : Type 0 where
  pub below : c < channel_count t.channel_records
  pub from_one : 0 < f
  pub to_last : f ≤ file_count t.file_records
  pub small : i < 65536
  pub start : last_start bytes ≤ length bytes
  pub spelled : is_syllable (part bytes (last_start bytes) (length bytes)) ≡ true
  pub rewritable : Rewritable t.blocks t.block_records t.file_records d i (record_of f bytes)

abbrev pub InsideNew : Tables → List ℕ → Creation → Type 0
InsideNew t bytes (Old c f) = Empties t c.0 f.0
InsideNew t bytes (New c f d i) = Makes t bytes c.0 f.0 d.0 i

abbrev pub Created : Tables → List ℕ → Answers Creation Report → Type 0
Created t bytes = Decides (planned_new t bytes) (InsideNew t bytes) (result_of (Call.Create bytes) t)
