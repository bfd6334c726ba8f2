-- How a promise is met: by a refusal that leaves all as it was, or by the changes of an accepted call.
use Rattle.std.specs.Prelude.{ℕ, ◌≡◌, List, Err}
use Rattle.std.proofs.Math.Path.{refl}
use Rattle.std.proofs.Common.{ap, sym, ◌∙◌}
use Rattle.meaning.specs.File.{over}
use Rattle.meaning.specs.Store.{Change}
use Rattle.meaning.specs.Result.{Result, refused, done}
use Rattle.meaning.specs.Tables.{Tables, put_all}
use Rattle.meaning.specs.Run.{Call, width, accepted, refusal, Outcome, Promise, result_of, answer_of, bytes_of, changes_of}
use Rattle.meaning.specs.Answers.{reported}
use Rattle.meaning.proofs.Refusals.{refusal-alone, refused_row}
use Rattle.meaning.specs.declared.Report.{Report}

module _ (call : Call) (t : Tables) (buffer : List ℕ) where
  -- a result that a call gives, made in the tables and told
  pub kept : (r : Result) → r ≡ result_of call t → (o : Outcome) → o.answer ≡ answer_of (width call) r → o.buffer ≡ over buffer (bytes_of r) → o.tables ≡ put_all t (changes_of r)
      → Promise call t buffer o
  kept r e o answers fills leaves =
      record {
        answers = answers ∙ ap (answer_of (width call)) e;
        fills = fills ∙ ap (λ x. over buffer (bytes_of x)) e;
        leaves = leaves ∙ ap (λ x. put_all t (changes_of x)) e;
      }

  -- a refusal gives its report and changes nothing
  pub kept_refusal : (why : Report) → refused why ≡ result_of call t → Promise call t buffer (record { answer = refusal (width call) why; buffer = buffer; tables = t })
  unfolding answer_of bytes_of changes_of put_all
  kept_refusal why e = kept (refused why) e (record { answer = refusal (width call) why; buffer = buffer; tables = t }) refl refl refl

  -- the same of a call that answers its report alone
  pub kept_report : width call ≡ 0 → (why : Report) → refused why ≡ result_of call t → Promise call t buffer (record { answer = reported (Err why); buffer = buffer; tables = t })
  kept_report alone why e = rw (alone, refusal-alone why (refused_row call t why (sym e)).0) at (kept_refusal why e)

  -- an accepted call tells its numbers, fills the buffer's head and makes its changes
  pub kept_done : (ns bytes : List ℕ) (changes : List Change) → done ns bytes changes ≡ result_of call t → (t' : Tables) → t' ≡ put_all t changes
      → Promise call t buffer (record { answer = accepted ns; buffer = over buffer bytes; tables = t' })
  unfolding answer_of bytes_of changes_of
  kept_done ns bytes changes e t' leaves = kept (done ns bytes changes) e (record { answer = accepted ns; buffer = over buffer bytes; tables = t' }) refl refl leaves
