-- What is decided is done: a refusal leaves the tables, and a move puts the channel's record.
use Prim.Native.Nat.{ℕ}
use mathlib.Core.Path.{◌≡◌, ap}
use mathlib.Core.List.{List, [], ◌∷◌}
use Rattle.std.specs.Prelude.{Ok, Err}
use Rattle.std.proofs.lemmas.Result.{err_from_is_err_and}
use Rattle.records.specs.Numbers.{with_record}
use Rattle.meaning.specs.Tables.{Tables, tables, put, put_all, channel_record}
use Rattle.meaning.specs.Run.{Call, Promise, refusal, accepted}
use Rattle.meaning.proofs.PromiseLaws.{kept_refusal, kept_done}
use Rattle.meaning.specs.Store.{channel, channel_to}
use Rattle.meaning.specs.declared.Report.{Report}
use Rattle.tables.specs.declared.ChannelRecord.{ChannelRecord}
use Rattle.channels.specs.Seek.{Decided}
use Rattle.channels.proofs.seek.Goals as goal

module _ (t : Tables) (c mode n : ℕ) where
  refused_so : (why : Report) → Decided t c mode n (Err why) → Promise (Call.Seek c mode n) t [] (record { answer = refusal 1 why; buffer = []; tables = t })
  refused_so why decided = kept_refusal (Call.Seek c mode n) t [] why decided.means

  moves : (y : ChannelRecord) → Decided t c mode n (Ok y) → (records : List ℕ) → records ≡ with_record 8 t.channel_records c (channel_record y.file.0 y.position)
      → Promise (Call.Seek c mode n) t [] (record { answer = accepted (y.position ∷ []); buffer = []; tables = tables t.blocks t.block_records t.file_records records })
  unfolding put_all put
  moves y decided records p =
      kept_done (Call.Seek c mode n) t [] (y.position ∷ []) [] (channel c (channel_to y.file.0 y.position) ∷ []) decided.means
      (tables t.blocks t.block_records t.file_records records) (ap (tables t.blocks t.block_records t.file_records) p)

pub returns-in_err-moved : goal.returns-in_err-moved
returns-in_err-moved c =
    let p = err_from_is_err_and c.from_residual.result c.from_residual.ensures.1 in
    rw (p.1, p.2) (refused_so _ _ _ _ _ c.in_err-moved.ensures)

pub returns : goal.returns
returns c = moves _ _ _ _ _ c.in_ok-moved.ensures _ c.put_channel_record.ensures
