-- What is decided is done: a refusal leaves the tables; else the name gets its record and the directory is made.
use Rattle.std.specs.Prelude.{ℕ, ◌≤◌, ◌<◌, ◌≡◌, refl, List, [], ◌∷◌, true, length, Result as Answers, Ok, Err}
use Rattle.std.proofs.lemmas.Result.{err_from_is_err_and}
use Rattle.meaning.specs.Name.{is_syllable}
use Rattle.meaning.specs.Store.{file, directory}
use Rattle.meaning.specs.NameCalls.{rewritten}
use Rattle.meaning.specs.Tables.{Tables, tables, store_of, put}
use Rattle.meaning.specs.Result.{Result}
use Rattle.meaning.specs.Run.{Call, Promise, Answer, accepted, result_of}
use Rattle.meaning.specs.Answers.{reported}
use Rattle.meaning.specs.Decisions.{refusal_given, plan_given, plan_fits}
use Rattle.meaning.proofs.PromiseLaws.{kept_report, kept_done}
use Rattle.meaning.specs.declared.Report.{Report}
use Rattle.meaning.specs.declared.FileNo.{FileNo}
use Rattle.names.specs.Syllables.{part, last_start}
use Rattle.files.specs.Files.{Clearable, cleared}
use Rattle.recording.specs.Recording.{Rewritable, record_of}
use Rattle.recording.specs.AfterRecord.{Written}
use Rattle.folders.specs.Acts.{then_clearable, both_made}
use Rattle.folders.specs.Make.{Plan, Made, Names, Fits, planned}
use Rattle.folders.proofs.mkdir.Goals as goal

-- the promise, for an answer and the tables that are left
abbrev Kept : Tables → List ℕ → Answer → Tables → Type 0
Kept t bytes answer left = Promise (Call.Mkdir bytes) t [] (record { answer = answer; buffer = []; tables = left })

module _ (b br fr cr bytes : List ℕ) (d : Answers Plan Report) (decided : Made (tables b br fr cr) bytes d) where
  abbrev t : Tables
  t = tables b br fr cr

  abbrev given : Result
  given = result_of (Call.Mkdir bytes) t

  refuses : (why : Report) → d ≡ Err why → Kept t bytes (reported (Err why)) t
  refuses why e =
      kept_report (Call.Mkdir bytes) t [] refl why (refusal_given (planned t bytes) (Fits t bytes) given d decided why e)

  module _ (p : FileNo) (i : ℕ) (f : FileNo) (depth : ℕ) (e : d ≡ Ok (p, i, f, depth)) where
    names_so : Names t bytes p.0 i f.0
    names_so = plan_fits (planned t bytes) (Fits t bytes) given d decided (p, i, f, depth) e

    nameable : (i < 65536) × (last_start bytes ≤ length bytes) × (is_syllable (part bytes (last_start bytes) (length bytes)) ≡ true)
    nameable = (names_so.able.small, names_so.start, names_so.syllable)

    rewritable : Rewritable b br fr p.0 i (record_of f.0 bytes)
    rewritable = names_so.able.rewritable

    module _ (b' br' fr' : List ℕ) (gave : Written b br fr b' br' fr' p.0 i (record_of f.0 bytes)) where
      clearable : Clearable br' fr' f.0
      clearable = then_clearable b br fr cr p.0 i (record_of f.0 bytes) f.0 2 depth b' br' fr' gave names_so.able

      made : (br'' fr'' : List ℕ)
          → ((blocks channels : List ℕ) → tables blocks br'' fr'' channels ≡ put (tables blocks br' fr' channels) (file f.0 (cleared 2 depth)))
          → Kept t bytes (accepted []) (tables b' br'' fr'' cr)
      made br'' fr'' clears =
          kept_done (Call.Mkdir bytes) t [] [] [] (file p.0 (rewritten (store_of t) p.0 i (record_of f.0 bytes)) ∷ file f.0 (directory depth []) ∷ [])
          (plan_given (planned t bytes) (Fits t bytes) given d decided (p, i, f, depth) e) (tables b' br'' fr'' cr)
          (both_made b br fr cr p.0 i (record_of f.0 bytes) f.0 2 depth b' br' fr' gave br'' fr'' clears)

pub returns-in_err-d : goal.returns-in_err-d
returns-in_err-d c =
    let p = err_from_is_err_and c.from_residual.result c.from_residual.ensures.1 in
    rw (p.1, p.2) (refuses _ _ _ _ _ _ c.decide_mkdir.ensures _ c.in_err-d.was)

pub give_name-requires : goal.give_name-requires
give_name-requires c =
    record { record_fits = nameable _ _ _ _ _ _ c.decide_mkdir.ensures _ _ _ _ c.in_ok-d.was; rewritable = rewritable _ _ _ _ _ _ c.decide_mkdir.ensures _ _ _ _ c.in_ok-d.was }

pub clear_file-requires : goal.clear_file-requires
clear_file-requires c = clearable _ _ _ _ _ _ c.decide_mkdir.ensures _ _ _ _ c.in_ok-d.was _ _ _ c.give_name.ensures

pub returns : goal.returns
returns c = made _ _ _ _ _ _ c.decide_mkdir.ensures _ _ _ _ c.in_ok-d.was _ _ _ c.give_name.ensures _ _ c.clear_file.ensures
