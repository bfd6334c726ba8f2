-- A name that a file is to get: its causes of a refusal, and what is known where none holds.
use Rattle.std.specs.Prelude.{ℕ, ◌≡◌, List, false, Option, Result as Answers, Ok, Err}
use Rattle.std.proofs.Math.Option.{some}
use Rattle.meaning.specs.Name.{syllables}
use Rattle.meaning.specs.Store.{Store, is_directory, named}
use Rattle.meaning.specs.Tables.{Tables, store_of}
use Rattle.meaning.specs.Types.{file_numbered}
use Rattle.meaning.specs.Result.{Result, refused, unless, nowhere}
use Rattle.meaning.specs.NameCalls.{parent, record_for}
use Rattle.meaning.specs.declared.FileNo.{FileNo}
use Rattle.meaning.specs.declared.Report.{Report}
use Rattle.meaning.specs.declared.Report.TheVariants.{NoSuchName, IsDirectory}
use Rattle.counts.specs.Gone.{gone_with}

-- NoSuchName and IsDirectory of the new name
abbrev pub if_new : Store → List (List ℕ) → Result → Result
if_new s name r = unless (nowhere s name) NoSuchName (unless (is_directory s (named s name)) IsDirectory r)

-- its directory, the place of its record there, and the file that goes with it
pub record NewName (s : Store) (name : List (List ℕ)) (d : FileNo) (i : ℕ) (gone : Option FileNo) : Type 0 where
  pub here : nowhere s name ≡ false
  pub plain : is_directory s (named s name) ≡ false
  pub to_is : d.0 ≡ parent s name
  pub place : i ≡ record_for s name
  pub gone_is : gone ≡ file_numbered (gone_with s (named s name))

abbrev pub OnNewName : Tables → List ℕ → Answers (FileNo × ℕ × Option FileNo) Report → Type 0
OnNewName t bytes (Ok x) = (name : List (List ℕ)) → syllables bytes ≡ some name → NewName (store_of t) name x.0 x.1 x.2
OnNewName t bytes (Err why) = (name : List (List ℕ)) → syllables bytes ≡ some name → (r : Result) → refused why ≡ if_new (store_of t) name r
