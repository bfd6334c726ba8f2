-- A call on a name: the refusals that come before every other, and what is known where they do not come.
use Rattle.std.specs.Prelude.{ℕ, ◌≡◌, List, true, false, not, Some, None, Result as Answers, Ok, Err}
use Rattle.std.proofs.Common.{subst}
use Rattle.meaning.specs.Name.{syllables}
use Rattle.meaning.specs.Tables.{Tables}
use Rattle.meaning.specs.Sound.{sound}
use Rattle.meaning.specs.Result.{Result, refused, unless, on_name, with_syllables}
use Rattle.meaning.specs.declared.Report.{Report}
use Rattle.meaning.specs.declared.Report.TheVariants.{NotAStore, BadName}
use Rattle.names.specs.FormLaws.{Counted, form-counted, form_none}
use Rattle.names.specs.Syllables.{form_of}

-- what a call on a name gives, where `rest` follows on the syllables of a well-written name
unfoldable pub on_name_of : Tables → List ℕ → (List (List ℕ) → Result) → Result
on_name_of t bytes rest = unless (not (sound t)) NotAStore (on_name bytes rest)

-- a sound store, and a well-written name of k syllables
pub record Spelled (t : Tables) (bytes : List ℕ) (k : ℕ) : Type 0 where
  pub ok : sound t ≡ true
  pub counted : Counted (syllables bytes) k

-- how many syllables the name has, or a refusal
abbrev pub Judged : Type 0
Judged = Answers ℕ Report

abbrev pub OnName : Tables → List ℕ → Judged → Type 0
OnName t bytes (Ok k) = Spelled t bytes k
OnName t bytes (Err why) = (rest : List (List ℕ) → Result) → refused why ≡ on_name_of t bytes rest

-- ---- by the tests that lead there

module _ (t : Tables) (bytes : List ℕ) where
  pub on_unsound : sound t ≡ false → OnName t bytes (Err NotAStore)
  unfolding on_name_of unless
  on_unsound e rest = rw e

  pub on_bad : sound t ≡ true → None ≡ form_of (syllables bytes) → OnName t bytes (Err BadName)
  unfolding on_name_of unless with_syllables
  on_bad ok e rest = let none_so = form_none (syllables bytes) e in rw (ok, none_so)

  pub on_spelled : sound t ≡ true → (k : ℕ) → Some k ≡ form_of (syllables bytes) → OnName t bytes (Ok k)
  on_spelled ok k e = record { ok = ok; counted = form-counted (syllables bytes) k e }

-- ---- what follows

module _ (t : Tables) (bytes : List ℕ) (h : Judged) (on : OnName t bytes h) where
  pub refuses : (why : Report) → h ≡ Err why → (rest : List (List ℕ) → Result) → refused why ≡ on_name_of t bytes rest
  refuses why e = subst (OnName t bytes) e on

  pub spelled : (k : ℕ) → h ≡ Ok k → Spelled t bytes k
  spelled k e = subst (OnName t bytes) e on

pub gives : (t : Tables) (bytes : List ℕ) (k : ℕ) → (s : Spelled t bytes k) → (rest : List (List ℕ) → Result) → rest s.counted.name ≡ on_name_of t bytes rest
unfolding on_name_of unless with_syllables
gives t bytes k s rest = rw (s.ok, s.counted.is)
