-- What is decided is done: a refusal leaves the tables; else the record is made blank and the directory cleared.
use Rattle.std.specs.Prelude.{ℕ, ◌<◌, ◌≡◌, refl, List, [], ◌∷◌, Result as Answers, Ok, Err}
use Rattle.std.proofs.lemmas.Result.{err_from_is_err_and}
use Rattle.meaning.specs.Name.{blank_record}
use Rattle.meaning.specs.Store.{file, no_file}
use Rattle.meaning.specs.NameCalls.{rewritten}
use Rattle.meaning.specs.Tables.{Tables, tables, store_of, put}
use Rattle.meaning.specs.Result.{Result}
use Rattle.meaning.specs.Run.{Call, Promise, Answer, accepted, result_of}
use Rattle.meaning.specs.Answers.{reported}
use Rattle.meaning.specs.Decisions.{refusal_given, plan_given, plan_fits}
use Rattle.meaning.proofs.PromiseLaws.{kept_report, kept_done}
use Rattle.meaning.specs.declared.Report.{Report}
use Rattle.meaning.specs.declared.FileNo.{FileNo}
use Rattle.files.specs.Files.{Clearable, cleared}
use Rattle.recording.specs.Recording.{Rewritable}
use Rattle.recording.specs.AfterRecord.{Written}
use Rattle.folders.specs.Acts.{Able, then_clearable, both_made}
use Rattle.folders.specs.Remove.{Plan, Removed, Fits, planned}
use Rattle.folders.proofs.rmdir.Goals as goal

-- the promise, for an answer and the tables that are left
abbrev Kept : Tables → List ℕ → Answer → Tables → Type 0
Kept t bytes answer left = Promise (Call.Rmdir bytes) t [] (record { answer = answer; buffer = []; tables = left })

module _ (b br fr cr bytes : List ℕ) (d : Answers Plan Report) (decided : Removed (tables b br fr cr) bytes d) where
  abbrev t : Tables
  t = tables b br fr cr

  abbrev given : Result
  given = result_of (Call.Rmdir bytes) t

  refuses : (why : Report) → d ≡ Err why → Kept t bytes (reported (Err why)) t
  refuses why e =
      kept_report (Call.Rmdir bytes) t [] refl why (refusal_given (planned t) (Fits t) given d decided why e)

  module _ (p : FileNo) (i : ℕ) (f : FileNo) (e : d ≡ Ok (p, i, f)) where
    able_so : Able t p.0 i blank_record f.0
    able_so = plan_fits (planned t) (Fits t) given d decided (p, i, f) e

    small : i < 65536
    small = able_so.small

    rewritable : Rewritable b br fr p.0 i blank_record
    rewritable = able_so.rewritable

    module _ (b' br' fr' : List ℕ) (took : Written b br fr b' br' fr' p.0 i blank_record) where
      clearable : Clearable br' fr' f.0
      clearable = then_clearable b br fr cr p.0 i blank_record f.0 0 0 b' br' fr' took able_so

      removed : (br'' fr'' : List ℕ)
          → ((blocks channels : List ℕ) → tables blocks br'' fr'' channels ≡ put (tables blocks br' fr' channels) (file f.0 (cleared 0 0)))
          → Kept t bytes (accepted []) (tables b' br'' fr'' cr)
      removed br'' fr'' clears =
          kept_done (Call.Rmdir bytes) t [] [] [] (file p.0 (rewritten (store_of t) p.0 i blank_record) ∷ file f.0 no_file ∷ [])
          (plan_given (planned t) (Fits t) given d decided (p, i, f) e) (tables b' br'' fr'' cr)
          (both_made b br fr cr p.0 i blank_record f.0 0 0 b' br' fr' took br'' fr'' clears)

pub returns-in_err-d : goal.returns-in_err-d
returns-in_err-d c =
    let p = err_from_is_err_and c.from_residual.result c.from_residual.ensures.1 in
    rw (p.1, p.2) (refuses _ _ _ _ _ _ c.decide_rmdir.ensures _ c.in_err-d.was)

pub take_name-requires : goal.take_name-requires
take_name-requires c =
    record { i_in_bounds = small _ _ _ _ _ _ c.decide_rmdir.ensures _ _ _ c.in_ok-d.was; rewritable = rewritable _ _ _ _ _ _ c.decide_rmdir.ensures _ _ _ c.in_ok-d.was }

pub clear_file-requires : goal.clear_file-requires
clear_file-requires c = clearable _ _ _ _ _ _ c.decide_rmdir.ensures _ _ _ c.in_ok-d.was _ _ _ c.take_name.ensures

pub returns : goal.returns
returns c = removed _ _ _ _ _ _ c.decide_rmdir.ensures _ _ _ c.in_ok-d.was _ _ _ c.take_name.ensures _ _ c.clear_file.ensures
