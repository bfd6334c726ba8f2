-- What is decided is done: a refusal leaves the buffer, and else the names are laid at its head.
use Rattle.std.specs.Prelude.{ℕ, ◌≡◌, refl, List, [], ◌∷◌, length, Result as Answers, Ok, Err}
use Rattle.std.proofs.lemmas.Result.{err_from_is_err_and}
use Rattle.meaning.specs.File.{over}
use Rattle.meaning.specs.Tables.{Tables, tables, put_all}
use Rattle.meaning.specs.Result.{Result}
use Rattle.meaning.specs.Run.{Call, Promise, result_of, accepted}
use Rattle.meaning.specs.Answers.{counted}
use Rattle.meaning.specs.Decisions.{refusal_given, plan_given, plan_fits}
use Rattle.meaning.proofs.PromiseLaws.{kept_refusal, kept_done}
use Rattle.meaning.specs.declared.Report.{Report}
use Rattle.meaning.specs.declared.FileNo.{FileNo}
use Rattle.listing.specs.Names.{place_names}
use Rattle.listing.specs.List.{Plan, Decided, Fits, Fitting, planned}
use Rattle.listing.proofs.ls.Goals as goal

module _ (b br fr cr bytes buffer : List ℕ) (d : Answers Plan Report) (decided : Decided (tables b br fr cr) bytes (length buffer) d) where
  abbrev t : Tables
  t = tables b br fr cr

  abbrev given : Result
  given = result_of (Call.Ls bytes (length buffer)) t

  refuses : (why : Report) → d ≡ Err why → Promise (Call.Ls bytes (length buffer)) t buffer (record { answer = counted (Err why); buffer = buffer; tables = t })
  refuses why e =
      kept_refusal (Call.Ls bytes (length buffer)) t buffer why
      (refusal_given (planned t) (Fits t (length buffer)) given d decided why e)

  module _ (f : FileNo) (count names : ℕ) (e : d ≡ Ok (f, count, names)) where
    fitting : Fitting t f.0 count (length buffer)
    fitting = plan_fits (planned t) (Fits t (length buffer)) given d decided (f, count, names) e

    lists : (filled : List ℕ) → filled ≡ over buffer (place_names b br f.0 count)
        → Promise (Call.Ls bytes (length buffer)) t buffer (record { answer = accepted (names ∷ []); buffer = filled; tables = t })
    unfolding put_all
    lists filled p =
        rw p
        (kept_done (Call.Ls bytes (length buffer)) t buffer (names ∷ []) (place_names b br f.0 count) []
        (plan_given (planned t) (Fits t (length buffer)) given d decided (f, count, names) e) t refl)

pub returns-in_err-f : goal.returns-in_err-f
returns-in_err-f c =
    let p = err_from_is_err_and c.from_residual.result c.from_residual.ensures.1 in
    rw (p.1, p.2) (refuses _ _ _ _ _ _ _ c.decide_ls.ensures _ c.in_err-f.was)

pub lay_names-requires : goal.lay_names-requires
lay_names-requires c =
    let fit = fitting _ _ _ _ _ _ _ c.decide_ls.ensures _ _ _ c.in_ok-f.was in
    record { lies = fit.lies; names_fit = fit.room }

pub returns : goal.returns
returns c = lists _ _ _ _ _ _ _ c.decide_ls.ensures _ _ _ c.in_ok-f.was _ c.lay_names.ensures
