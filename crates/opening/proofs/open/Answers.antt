-- What is decided is done: a refusal leaves the tables, and else the channel's record is put.
use Rattle.std.specs.Prelude.{ℕ, ◌≡◌, List, [], ◌∷◌, Ok, Err}
use Rattle.std.proofs.Common.{ap}
use Rattle.std.proofs.lemmas.Result.{err_from_is_err_and}
use Rattle.records.specs.Numbers.{with_record}
use Rattle.meaning.specs.Tables.{Tables, tables, put, put_all, channel_record}
use Rattle.meaning.specs.Run.{Call, Promise, refusal, accepted}
use Rattle.meaning.proofs.PromiseLaws.{kept_refusal, kept_done}
use Rattle.meaning.specs.Store.{channel, channel_to}
use Rattle.meaning.specs.declared.Report.{Report}
use Rattle.meaning.specs.declared.ChannelNo.{ChannelNo}
use Rattle.meaning.specs.declared.FileNo.{FileNo}
use Rattle.opening.specs.Open.{Decided}
use Rattle.opening.proofs.open.Goals as goal

module _ (t : Tables) (bytes : List ℕ) where
  refused_so : (why : Report) → Decided t bytes (Err why) → Promise (Call.Open bytes) t [] (record { answer = refusal 1 why; buffer = []; tables = t })
  refused_so why decided = kept_refusal (Call.Open bytes) t [] why decided.means

  opens : (c : ChannelNo) (f : FileNo) → Decided t bytes (Ok (c, f)) → (records : List ℕ) → records ≡ with_record 8 t.channel_records c.0 (channel_record f.0 0)
      → Promise (Call.Open bytes) t [] (record { answer = accepted (c.0 ∷ []); buffer = []; tables = tables t.blocks t.block_records t.file_records records })
  unfolding put_all put
  opens c f decided records p =
      kept_done (Call.Open bytes) t [] (c.0 ∷ []) [] (channel c.0 (channel_to f.0 0) ∷ []) decided.means
      (tables t.blocks t.block_records t.file_records records) (ap (tables t.blocks t.block_records t.file_records) p)

pub returns-in_err-c : goal.returns-in_err-c
returns-in_err-c c =
    let p = err_from_is_err_and c.from_residual.result c.from_residual.ensures.1 in
    rw (p.1, p.2) (refused_so _ _ _ c.in_err-c.ensures)

pub returns : goal.returns
returns c = opens _ _ _ _ c.in_ok-c.ensures _ c.open_channel.ensures
