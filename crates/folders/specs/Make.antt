-- Mkdir: what its decision stands for.
use Rattle.std.specs.Prelude.{ℕ, ◌≤◌, ◌≡◌, ◌≢◌, List, [], ◌∷◌, true, length, Result as Answers}
use Rattle.meaning.specs.Name.{is_syllable}
use Rattle.meaning.specs.Store.{file, directory}
use Rattle.meaning.specs.NameCalls.{rewritten}
use Rattle.meaning.specs.Tables.{Tables, store_of}
use Rattle.meaning.specs.Result.{Result, done}
use Rattle.meaning.specs.Run.{Call, result_of}
use Rattle.meaning.specs.Decisions.{Decides}
use Rattle.meaning.specs.declared.FileNo.{FileNo}
use Rattle.meaning.specs.declared.Report.{Report}
use Rattle.names.specs.Syllables.{part, last_start}
use Rattle.lookup.specs.Filed.{filed}
use Rattle.naming.specs.Judged.{Spelled}
use Rattle.naming.specs.Located.{Locates}
use Rattle.naming.specs.declared.Located.TheVariants.{New}
use Rattle.recording.specs.Recording.{record_of}
use Rattle.folders.specs.Acts.{Able}

-- a name of at most 7 syllables that is new in directory d
pub record NewName (t : Tables) (bytes : List ℕ) (d : FileNo) : Type 0 where
  pub k : ℕ
  pub few : k ≢ 8
  pub spelled : Spelled t bytes k
  pub located : Locates (filed t.blocks t.block_records t.file_records) bytes (New d)

-- the name's directory, its record there, the new directory and its depth
abbrev pub Plan : Type 0
Plan = FileNo × ℕ × FileNo × ℕ

-- the result that a plan stands for
abbrev pub planned : Tables → List ℕ → Plan → Result
planned t bytes (d, i, f, depth) =
    done [] [] (file d.0 (rewritten (store_of t) d.0 i (record_of f.0 bytes)) ∷ file f.0 (directory depth []) ∷ [])

-- the name's record can be written, and then the new directory
pub record Names (t : Tables) (bytes : List ℕ) (d i f : ℕ) : Type 0 where
  pub able : Able t d i (record_of f bytes) f
  pub start : last_start bytes ≤ length bytes
  pub syllable : is_syllable (part bytes (last_start bytes) (length bytes)) ≡ true

abbrev pub Fits : Tables → List ℕ → Plan → Type 0
Fits t bytes (d, i, f, depth) = Names t bytes d.0 i f.0

abbrev pub Made : Tables → List ℕ → Answers Plan Report → Type 0
Made t bytes d = Decides (planned t bytes) (Fits t bytes) (result_of (Call.Mkdir bytes) t) d
