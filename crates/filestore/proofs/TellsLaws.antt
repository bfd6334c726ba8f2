-- How an answer is told and a promise told is met; what is told of a refusal and of an accepted call; and that two outcomes
-- that the promise allows are identical.
use Rattle.std.specs.Prelude.{ℕ, ◌-◌, ◌≤◌, ◌≡◌, List, ◌∷◌, ◌++◌}
use Rattle.std.proofs.Common.{sym, ◌∙◌}
use Rattle.std.proofs.Math.Path.{ap}
use Rattle.std.proofs.Math.ListN.{length, replicate}
use native.Mathlib.Omega.{arith}
use Rattle.meaning.specs.Store.{Change}
use Rattle.meaning.specs.Result.{Result, refused, done}
use Rattle.meaning.specs.Tables.{Tables}
use Rattle.meaning.specs.Run.{Call, Answer, Promise, result_of, answer_of, width, number_of}
use Rattle.meaning.proofs.Determined.{same_outcome}
use Rattle.meaning.specs.declared.Report.{Report}
use Rattle.filestore.specs.declared.Told.{Told}
use Rattle.filestore.specs.Tells.{four, in_four, alone, Seen, PromiseTold}
use Rattle.filestore.specs.Rows.{refusal-alone}

-- ---- a promise that is kept and an answer that is told

pub kept_told : (call : Call) (t : Tables) (buffer buffer' : List ℕ) (t' : Tables) (answer : Answer) (r : Told)
    → Promise call t buffer (record { answer = answer; buffer = buffer'; tables = t' }) → four r ≡ in_four answer
    → PromiseTold call t buffer (record { told = r; buffer = buffer'; tables = t' })
kept_told call t buffer buffer' t' answer r p n = record { answer = answer; keeps = p; tells = n }

few : (call : Call) → width call ≤ 3
few Call.Prepare = omega arith
few Call.Room = omega arith
few (Call.Create name) = omega arith
few (Call.Open name) = omega arith
few (Call.Unlink name) = omega arith
few (Call.Mkdir name) = omega arith
few (Call.Rmdir name) = omega arith
few (Call.Link old new) = omega arith
few (Call.Move old new) = omega arith
few (Call.Ls name size) = omega arith
few (Call.Close c) = omega arith
few (Call.Fstat c) = omega arith
few (Call.Read c count) = omega arith
few (Call.Write c bytes) = omega arith
few (Call.Seek c mode n) = omega arith

module _ (call : Call) (t : Tables) (buffer : List ℕ) (o : Seen) (p : PromiseTold call t buffer o) where
  told_result : (r : Result) → result_of call t ≡ r → four o.told ≡ in_four (answer_of (width call) r)
  told_result r e = p.tells ∙ ap in_four (p.keeps.answers ∙ ap (answer_of (width call)) e)

  -- a refused call tells its report, then zeros
  pub told_refused : (why : Report) → result_of call t ≡ refused why → four o.told ≡ alone why
  unfolding answer_of
  told_refused why e = told_result (refused why) e ∙ refusal-alone (width call) why (few call)

  -- an accepted call tells 0, then its numbers, then zeros
  pub told_done : (ns bytes : List ℕ) (changes : List Change) → result_of call t ≡ done ns bytes changes → four o.told ≡ 0 ∷ ns ++ replicate (3 - length ns) 0
  unfolding answer_of in_four number_of
  told_done ns bytes changes e =
      let rest : 4 - length (0 ∷ ns) ≡ 3 - length ns = omega arith in
      told_result (done ns bytes changes) e ∙ ap (λ (k : ℕ). 0 ∷ ns ++ replicate {A = ℕ} k 0) rest

-- ---- the promise determines its outcome

same-four : (r r' : Told) → four r ≡ four r' → r ≡ r'
same-four r r' e =
    let report : r.report ≡ r'.report = cc in
    let first : r.first ≡ r'.first = cc in
    let second : r.second ≡ r'.second = cc in
    let third : r.third ≡ r'.third = cc in
    λ i. record { report = report i; first = first i; second = second i; third = third i }

-- the four numbers, the lent buffer, every byte of every table
pub same_seen : (call : Call) (t : Tables) (buffer : List ℕ) (o o' : Seen) → PromiseTold call t buffer o → PromiseTold call t buffer o' → o ≡ o'
same_seen call t buffer o o' p q =
    let same = same_outcome call t buffer
    (record { answer = p.answer; buffer = o.buffer; tables = o.tables })
    (record { answer = q.answer; buffer = o'.buffer; tables = o'.tables })
    p.keeps q.keeps in
    let numbers = same-four o.told o'.told (p.tells ∙ ap (λ x. in_four x.answer) same ∙ sym q.tells) in
    λ i. record { told = numbers i; buffer = (same i).buffer; tables = (same i).tables }
