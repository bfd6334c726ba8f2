-- A call on two names: the refusals that come before every other, and what is known where they do not come.
use Rattle.std.specs.Prelude.{ℕ, ◌≡◌, List, not, Result as Answers, Ok, Err}
use Rattle.meaning.specs.Name.{syllables}
use Rattle.meaning.specs.Tables.{Tables}
use Rattle.meaning.specs.Sound.{sound}
use Rattle.meaning.specs.Result.{Result, refused, unless, on_name}
use Rattle.meaning.specs.declared.Report.{Report}
use Rattle.meaning.specs.declared.Report.TheVariants.{NotAStore}
use Rattle.names.specs.FormLaws.{Counted}
use Rattle.lookup.specs.Filed.{filed}
use Rattle.naming.specs.Located.{Locates}
use Rattle.naming.specs.At.{At}
use Rattle.naming.specs.declared.Located.{Located}

-- what a call on two names gives, where `rest` follows on the syllables of both
unfoldable pub on_names : Tables → List ℕ → List ℕ → (List (List ℕ) → List (List ℕ) → Result) → Result
on_names t old new rest = unless (not (sound t)) NotAStore (on_name old λ from. on_name new λ to. rest from to)

-- a name of k syllables, where it is located
pub record Here (t : Tables) (bytes : List ℕ) (x : Located) : Type 0 where
  pub k : ℕ
  pub counted : Counted (syllables bytes) k
  pub located : Locates (filed t.blocks t.block_records t.file_records) bytes x
  pub at : At t bytes k x

pub record Both (t : Tables) (old new : List ℕ) (x y : Located) : Type 0 where
  pub old-name : Here t old x
  pub new-name : Here t new y

abbrev pub FindsNames : Tables → List ℕ → List ℕ → Answers (Located × Located) Report → Type 0
FindsNames t old new (Ok both) = Both t old new both.0 both.1
FindsNames t old new (Err why) = (rest : List (List ℕ) → List (List ℕ) → Result) → refused why ≡ on_names t old new rest
