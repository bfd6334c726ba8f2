-- Unlink: what its plan stands for.
use Rattle.std.specs.Prelude.{ℕ, ◌≤◌, ◌<◌, [], ◌∷◌, List, eqb, Option, Some, None, Result as Answers}
use Rattle.records.specs.Rows.{pick}
use Rattle.meaning.specs.Name.{blank_record}
use Rattle.meaning.specs.Store.{Change, file, no_file}
use Rattle.meaning.specs.NameCalls.{rewritten}
use Rattle.meaning.specs.Tables.{Tables, store_of, file_count}
use Rattle.meaning.specs.Result.{Result, done}
use Rattle.meaning.specs.Run.{Call, result_of}
use Rattle.meaning.specs.Decisions.{Decides}
use Rattle.meaning.specs.declared.FileNo.{FileNo}
use Rattle.meaning.specs.declared.Report.{Report}
use Rattle.recording.specs.Recording.{Rewritable}
use Rattle.placing.specs.OldName.{freed}

-- the directory and the place of the record that is made blank, and the file that goes
abbrev pub Plan : Type 0
Plan = FileNo × ℕ × Option FileNo

-- file g goes; 0 means none
unfoldable pub freeing : ℕ → List Change
freeing g = pick (eqb g 0) [] (file g no_file ∷ [])

-- the result that a plan stands for
abbrev pub planned : Tables → Plan → Result
planned t (d, i, gone) = done [] [] (file d.0 (rewritten (store_of t) d.0 i blank_record) ∷ freed gone)

-- the file that goes is one of the tables'
abbrev pub CanGo : Tables → Option FileNo → Type 0
CanGo t None = Unit {0}
CanGo t (Some f) = (0 < f.0) × (f.0 ≤ file_count t.file_records)

-- the record can be made blank
pub record Takes (t : Tables) (d i : ℕ) (gone : Option FileNo) : Type 0 where
  pub small : i < 65536
  pub rewritable : Rewritable t.blocks t.block_records t.file_records d i blank_record
  pub can_go : CanGo t gone

abbrev pub Inside : Tables → Plan → Type 0
Inside t (d, i, gone) = Takes t d.0 i gone

abbrev pub Decided : Tables → List ℕ → Answers Plan Report → Type 0
Decided t bytes = Decides (planned t) (Inside t) (result_of (Call.Unlink bytes) t)
