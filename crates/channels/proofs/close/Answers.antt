-- What is decided is done: a refusal leaves the tables; else the channel's record is blanked, and an orphan's blocks and record are let go.
use Prim.Native.Nat.{ℕ}
use mathlib.Core.Path.{◌≡◌, refl, ap, ◌∙◌}
use mathlib.Core.List.{List, [], ◌∷◌}
use Rattle.std.specs.Prelude.{Some, None, Ok, Err}
use Rattle.std.proofs.lemmas.Result.{err_from_is_err_and}
use Rattle.records.specs.Numbers.{with_record}
use Rattle.meaning.specs.Store.{file, channel, no_file, no_channel}
use Rattle.meaning.specs.Tables.{Tables, tables, put, put_all, channel_record}
use Rattle.meaning.specs.Run.{Call, Promise, accepted}
use Rattle.meaning.specs.Answers.{reported}
use Rattle.meaning.proofs.PromiseLaws.{kept_report, kept_done}
use Rattle.meaning.specs.declared.Report.{Report}
use Rattle.meaning.specs.declared.FileNo.{FileNo}
use Rattle.files.specs.Files.{cleared}
use Rattle.channels.specs.Close.{Closes}
use Rattle.channels.proofs.close.Goals as goal

module _ (t : Tables) (c : ℕ) where
  refused_so : (why : Report) → Closes t c (Err why) → Promise (Call.Close c) t [] (record { answer = reported (Err why); buffer = []; tables = t })
  refused_so why decided = kept_report (Call.Close c) t [] refl why decided.means

  module _ (records : List ℕ) (blanked : records ≡ with_record 8 t.channel_records c (channel_record 0 0)) where
    alone : Closes t c (Ok None)
        → Promise (Call.Close c) t [] (record { answer = accepted []; buffer = []; tables = tables t.blocks t.block_records t.file_records records })
    unfolding put_all put
    alone decided =
        kept_done (Call.Close c) t [] [] [] (channel c no_channel ∷ []) decided.means
        (tables t.blocks t.block_records t.file_records records) (ap (tables t.blocks t.block_records t.file_records) blanked)

    with_file : (f : FileNo) → Closes t c (Ok (Some f)) → (br fr : List ℕ)
        → ((blocks channels : List ℕ) → tables blocks br fr channels ≡ put (tables blocks t.block_records t.file_records channels) (file f.0 (cleared 0 0)))
        → Promise (Call.Close c) t [] (record { answer = accepted []; buffer = []; tables = tables t.blocks br fr records })
    unfolding put_all put
    with_file f decided br fr clears =
        kept_done (Call.Close c) t [] [] [] (channel c no_channel ∷ file f.0 no_file ∷ []) decided.means
        (tables t.blocks br fr records) (clears t.blocks records ∙ ap (λ l. put (tables t.blocks t.block_records t.file_records l) (file f.0 no_file)) blanked)

pub returns-in_err-gone : goal.returns-in_err-gone
returns-in_err-gone c =
    let p = err_from_is_err_and c.from_residual.result c.from_residual.ensures.1 in
    rw (p.1, p.2) (refused_so _ _ _ c.in_err-gone.ensures)

pub returns-in-Some : goal.returns-in-Some
returns-in-Some c = with_file _ _ _ c.put_channel_record.ensures _ (rw c.in-Some.is at c.in_ok-gone.ensures) _ _ c.clear_file.ensures

pub returns-in_default : goal.returns-in_default
returns-in_default c = alone _ _ _ c.put_channel_record.ensures (rw c.in_default.is at c.in_ok-gone.ensures)
