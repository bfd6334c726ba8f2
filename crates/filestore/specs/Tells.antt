-- What a program in another language is told: an answer as four numbers, and the promise of a call with its answer so told.
use Rattle.std.specs.Prelude.{ℕ, ◌-◌, ◌≡◌, List, [], ◌∷◌, ◌++◌, length, replicate}
use Rattle.meaning.specs.Tables.{Tables}
use Rattle.meaning.specs.Run.{Call, Answer, Promise, number_of}
use Rattle.meaning.specs.declared.Report.{Report}
use Rattle.filestore.specs.declared.Told.{Told}

-- the numbers of the struct, in its order
abbrev pub four : Told → List ℕ
four r = r.report ∷ r.first ∷ r.second ∷ r.third ∷ []

-- an answer, with zeros up to four numbers
unfoldable pub in_four : Answer → List ℕ
in_four answer = answer ++ replicate (4 - length answer) 0

-- a report alone
abbrev pub alone : Report → List ℕ
alone why = number_of why ∷ 0 ∷ 0 ∷ 0 ∷ []

-- all that a program in another language can see of a call
pub record Seen : Type 0 where
  pub told : Told
  pub buffer : List ℕ
  pub tables : Tables

-- the call's own promise, its answer told in four numbers
pub record PromiseTold (call : Call) (t : Tables) (buffer : List ℕ) (o : Seen) : Type 0 where
  pub answer : Answer
  pub keeps : Promise call t buffer (record { answer = answer; buffer = o.buffer; tables = o.tables })
  pub tells : four o.told ≡ in_four answer

abbrev pub TellsInto : Call → Tables → Tables → List ℕ → List ℕ → Told → Type 0
TellsInto call t t' buffer buffer' r = PromiseTold call t buffer (record { told = r; buffer = buffer'; tables = t' })

abbrev pub Tells : Call → Tables → Tables → Told → Type 0
Tells call t t' r = PromiseTold call t [] (record { told = r; buffer = []; tables = t' })
