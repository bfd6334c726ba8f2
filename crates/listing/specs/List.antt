-- Ls: what its decision stands for.
use Rattle.std.specs.Prelude.{ℕ, ◌≤◌, List, [], ◌∷◌, length, Result as Answers}
use Rattle.meaning.specs.Tables.{Tables}
use Rattle.meaning.specs.Result.{Result, done}
use Rattle.meaning.specs.Run.{Call, result_of}
use Rattle.meaning.specs.Decisions.{Decides}
use Rattle.meaning.specs.declared.FileNo.{FileNo}
use Rattle.meaning.specs.declared.Report.{Report}
use Rattle.directories.specs.Find.{Lies}
use Rattle.listing.specs.Names.{place_names}

-- the directory that is listed, how many records it has and how many names
abbrev pub Plan : Type 0
Plan = FileNo × ℕ × ℕ

-- the result that a plan stands for
abbrev pub planned : Tables → Plan → Result
planned t (f, count, names) = done (names ∷ []) (place_names t.blocks t.block_records f.0 count) []

-- the directory's records lie in the block table, and its names fit the buffer
pub record Fitting (t : Tables) (d count size : ℕ) : Type 0 where
  pub lies : Lies t.blocks t.block_records d count
  pub room : length (place_names t.blocks t.block_records d count) ≤ size

abbrev pub Fits : Tables → ℕ → Plan → Type 0
Fits t size (f, count, names) = Fitting t f.0 count size

abbrev pub Decided : Tables → List ℕ → ℕ → Answers Plan Report → Type 0
Decided t bytes size d = Decides (planned t) (Fits t size) (result_of (Call.Ls bytes size) t) d
