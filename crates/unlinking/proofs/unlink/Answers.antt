-- What is decided is done: a refusal leaves the tables; else the record is made blank, and the file that goes is cleared.
use Rattle.std.specs.Prelude.{ℕ, ◌≡◌, refl, List, [], ◌∷◌, Option, Some, None, Ok, Err}
use Rattle.std.proofs.Common.{ap, subst, ◌∙◌}
use Rattle.std.proofs.lemmas.Result.{err_from_is_err_and}
use Rattle.meaning.specs.Name.{blank_record}
use Rattle.meaning.specs.Store.{file, no_file}
use Rattle.meaning.specs.NameCalls.{rewritten}
use Rattle.meaning.specs.Tables.{Tables, tables, store_of, put, put_all}
use Rattle.meaning.specs.Run.{Call, Promise, Answer, accepted}
use Rattle.meaning.specs.Answers.{reported}
use Rattle.meaning.proofs.PromiseLaws.{kept_report, kept_done}
use Rattle.meaning.specs.declared.Report.{Report}
use Rattle.meaning.specs.declared.FileNo.{FileNo}
use Rattle.files.specs.Files.{Clearable, cleared}
use Rattle.recording.specs.AfterRecord.{Written, clearable_written}
use Rattle.placing.specs.OldName.{freed}
use Rattle.unlinking.specs.Unlink.{Decided, CanGo}
use Rattle.unlinking.proofs.unlink.Goals as goal

-- the promise, for an answer and the tables that are left
abbrev Kept : Tables → List ℕ → Answer → Tables → Type 0
Kept t bytes answer left = Promise (Call.Unlink bytes) t [] (record { answer = answer; buffer = []; tables = left })

refused_so : (t : Tables) (bytes : List ℕ) (why : Report) → Decided t bytes (Err why) → Kept t bytes (reported (Err why)) t
refused_so t bytes why decided = kept_report (Call.Unlink bytes) t [] refl why decided.means

module _ (t : Tables) (bytes : List ℕ) (d : FileNo) (i : ℕ) (gone : Option FileNo) (decided : Decided t bytes (Ok (d, i, gone))) where
  keeps : (left : Tables) → left ≡ put_all t (file d.0 (rewritten (store_of t) d.0 i blank_record) ∷ freed gone) → Kept t bytes (accepted []) left
  keeps left made =
      kept_done (Call.Unlink bytes) t [] [] [] (file d.0 (rewritten (store_of t) d.0 i blank_record) ∷ freed gone) decided.means left made

  module _ (b' br' fr' : List ℕ) (took : Written t.blocks t.block_records t.file_records b' br' fr' d.0 i blank_record) where
    name-taken : gone ≡ None → Kept t bytes (accepted []) (tables b' br' fr' t.channel_records)
    unfolding put_all
    name-taken none = keeps (tables b' br' fr' t.channel_records) (rw none (took t.channel_records))

    module _ (f : FileNo) (is : gone ≡ Some f) where
      clearable : Clearable br' fr' f.0
      clearable =
          let can_go = subst (CanGo t) is decided.fits.can_go in
          clearable_written t.blocks t.block_records t.file_records d.0 i blank_record decided.fits.rewritable b' br' fr' took f.0 can_go.0 can_go.1

      file-freed : (br'' fr'' : List ℕ)
          → ((blocks channels : List ℕ) → tables blocks br'' fr'' channels ≡ put (tables blocks br' fr' channels) (file f.0 (cleared 0 0)))
          → Kept t bytes (accepted []) (tables b' br'' fr'' t.channel_records)
      unfolding put_all
      file-freed br'' fr'' clears =
          keeps (tables b' br'' fr'' t.channel_records)
          (rw is (clears b' t.channel_records ∙ ap (λ (u : Tables). put u (file f.0 no_file)) (took t.channel_records)))

pub returns-in_err-d : goal.returns-in_err-d
returns-in_err-d c =
    let p = err_from_is_err_and c.from_residual.result c.from_residual.ensures.1 in
    rw (p.1, p.2) (refused_so _ _ _ c.in_err-d.ensures)

pub clear_file-requires : goal.clear_file-requires
clear_file-requires c = clearable _ _ _ _ _ c.in_ok-d.ensures _ _ _ c.take_name.ensures _ c.in-Some.is

pub returns-in_default : goal.returns-in_default
returns-in_default c = name-taken _ _ _ _ _ c.in_ok-d.ensures _ _ _ c.take_name.ensures c.in_default.is

pub returns-in-Some : goal.returns-in-Some
returns-in-Some c = file-freed _ _ _ _ _ c.in_ok-d.ensures _ _ _ c.take_name.ensures _ c.in-Some.is _ _ c.clear_file.ensures
