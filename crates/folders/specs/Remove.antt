-- Rmdir: what its decision stands for.
use Rattle.std.specs.Prelude.{ℕ, List, [], ◌∷◌, Result as Answers}
use Rattle.meaning.specs.Name.{blank_record}
use Rattle.meaning.specs.Store.{file, no_file}
use Rattle.meaning.specs.NameCalls.{rewritten}
use Rattle.meaning.specs.Tables.{Tables, store_of}
use Rattle.meaning.specs.Result.{Result, done}
use Rattle.meaning.specs.Run.{Call, result_of}
use Rattle.meaning.specs.Decisions.{Decides}
use Rattle.meaning.specs.declared.FileNo.{FileNo}
use Rattle.meaning.specs.declared.Report.{Report}
use Rattle.folders.specs.Acts.{Able}

-- the name's directory, its record there, and the directory that goes
abbrev pub Plan : Type 0
Plan = FileNo × ℕ × FileNo

-- the result that a plan stands for
abbrev pub planned : Tables → Plan → Result
planned t (d, i, f) = done [] [] (file d.0 (rewritten (store_of t) d.0 i blank_record) ∷ file f.0 no_file ∷ [])

abbrev pub Fits : Tables → Plan → Type 0
Fits t (d, i, f) = Able t d.0 i blank_record f.0

abbrev pub Removed : Tables → List ℕ → Answers Plan Report → Type 0
Removed t bytes d = Decides (planned t) (Fits t) (result_of (Call.Rmdir bytes) t) d
