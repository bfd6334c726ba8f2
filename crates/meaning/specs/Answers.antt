-- What each answer stands for (01: "Where an answer is an enum, a definition gives this paper's number and values for each of
-- its cases"): an accepted call's values, or a refusal's report.
use Rattle.std.specs.Prelude.{ℕ, List, [], ◌∷◌, Result, Ok, Err, eqb}
use Rattle.records.specs.Rows.{pick}
use Rattle.meaning.specs.Run.{Answer, accepted, refusal, number_of}
use Rattle.meaning.specs.Types.{kind_number}
use Rattle.meaning.specs.declared.Report.{Report}
use Rattle.meaning.specs.declared.ChannelNo.{ChannelNo}
use Rattle.meaning.specs.declared.Stat.{Stat}
use Rattle.meaning.specs.declared.Space.{Space}

-- the row of an answer, of a call with n numbers, by the numbers that its value stands for
abbrev pub answered : {A : Type 0} → ℕ → (A → List ℕ) → Result A Report → Answer
answered n numbers (Ok value) = accepted (numbers value)
answered n numbers (Err why) = refusal n why

-- a call that answers its report alone; an Err of Ok stands for no row
abbrev pub reported : Result (Unit {0}) Report → Answer
reported (Ok done) = accepted []
reported (Err why) = pick (eqb (number_of why) 0) [] (refusal 0 why)

abbrev pub opened : Result ChannelNo Report → Answer
opened = answered 1 (λ c. c.0 ∷ [])

abbrev pub counted : Result ℕ Report → Answer
counted = answered 1 (λ n. n ∷ [])

-- a position
abbrev pub sought : Result ℕ Report → Answer
sought = counted

-- length, file number, kind
abbrev pub stat_of : Result Stat Report → Answer
stat_of = answered 3 (λ s. s.length ∷ s.file.0 ∷ kind_number s.kind ∷ [])

-- free blocks, free file numbers, free channels
abbrev pub space_of : Result Space Report → Answer
space_of = answered 3 (λ s. s.blocks ∷ s.files ∷ s.channels ∷ [])
