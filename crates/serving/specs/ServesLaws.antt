-- A promise that is kept and an answer that is printed: the call is served.
use Rattle.std.specs.Prelude.{ℕ, ◌≡◌, refl, List, [], ◌∷◌, ◌++◌, Some, None, Result as Answers, Ok, Err, Bool, true, false, eqb}
use Rattle.std.proofs.Common.{sym, ap, ◌∙◌}
use Rattle.meaning.specs.Tables.{Tables}
use Rattle.meaning.specs.File.{over}
use Rattle.records.specs.Rows.{pick}
use Rattle.meaning.specs.Result.{Result, refused, done}
use Rattle.meaning.specs.Run.{Call, width, Answer, Promise, result_of, answer_of, bytes_of, refusal, number_of}
use Rattle.meaning.specs.Answers.{answered, reported}
use Rattle.meaning.specs.declared.Report.{Report}
use Rattle.text.specs.Lays.{Lays}
use Rattle.text.specs.LaysLaws.{lays_as}
use Rattle.text.specs.Print.{served_as, printed, newline, question}
use Rattle.serving.specs.Serves.{Serves}

-- nothing laid over nothing
none_over : (bytes : List ℕ) → [] ≡ over [] bytes → bytes ≡ []
none_over [] e = refl
none_over (b ∷ bytes) e = cc

module _ (call : Call) (t : Tables) (buffer : List ℕ) (answer : Answer) (buffer' : List ℕ) (t' : Tables)
    (p : Promise call t buffer (record { answer = answer; buffer = buffer'; tables = t' }))
    (out : List ℕ) (at : ℕ) (after : List ℕ) (next : ℕ) where
  -- the bytes that are printed are those that the call gives
  pub served-bytes : (bytes : List ℕ) → printed answer bytes ≡ printed answer (bytes_of (result_of call t))
      → Lays out at (printed answer bytes ++ newline ∷ []) after next → Serves (Some call) t out at t' after next
  unfolding served_as
  served-bytes bytes e l =
      record {
        leaves = p.leaves;
        lays = lays_as (printed answer bytes ++ newline ∷ []) (printed (answer_of (width call) (result_of call t)) (bytes_of (result_of call t)) ++ newline ∷ []) out after at next
            (ap (λ x. x ++ newline ∷ []) (e ∙ ap (λ a. printed a (bytes_of (result_of call t))) p.answers)) l;
      }

module _ (call : Call) (t : Tables) (answer : Answer) (t' : Tables) (p : Promise call t [] (record { answer = answer; buffer = []; tables = t' }))
    (out : List ℕ) (at : ℕ) (after : List ℕ) (next : ℕ) where
  -- a call without lent buffer
  pub kept_served : Lays out at (printed answer [] ++ newline ∷ []) after next → Serves (Some call) t out at t' after next
  kept_served l = served-bytes call t [] answer [] t' p out at after next [] (ap (printed answer) (sym (none_over (bytes_of (result_of call t)) p.fills))) l

-- the same of a call that answers its report alone, and so never an Err of Ok
some_answer : (n : ℕ) (r : Result) → [] ≡ answer_of n r → ⊥
unfolding answer_of refusal
some_answer n (refused why) e = cc
some_answer n (done ns bytes changes) e = cc

reported_row : (r : Result) (n : ℕ) (answer : Answers (Unit {0}) Report) → reported answer ≡ answer_of n r → reported answer ≡ answered 0 (λ _. []) answer
reported_row r n (Ok nothing) e = refl
reported_row r n (Err why) e = go (eqb (number_of why) 0) e
  where
    go : (t : Bool) → pick t [] (refusal 0 why) ≡ answer_of n r → pick t [] (refusal 0 why) ≡ refusal 0 why
    go true e = absurd (some_answer n r e)
    go false e = refl

module _ (call : Call) (t : Tables) (answer : Answers (Unit {0}) Report) (t' : Tables)
    (p : Promise call t [] (record { answer = reported answer; buffer = []; tables = t' })) (out : List ℕ) (at : ℕ) (after : List ℕ) (next : ℕ) where
  pub kept_reported : Lays out at (printed (answered 0 (λ _. []) answer) [] ++ newline ∷ []) after next → Serves (Some call) t out at t' after next
  kept_reported l = kept_served call t (reported answer) t' p out at after next (rw (reported_row (result_of call t) (width call) answer p.answers) l)

-- a line that is no call
pub unknown_served : (t : Tables) (out : List ℕ) (at : ℕ) (after : List ℕ) (next : ℕ) → Lays out at (question ++ newline ∷ []) after next
    → Serves None t out at t after next
unfolding served_as
unknown_served t out at after next l = record { leaves = refl; lays = l }
