-- A refusal leaves all as it was; else the bytes read are readFILE's, and the channel's record has its position moved by their count.
use Prim.Native.Nat.{ℕ, ◌+◌, ◌<◌}
use mathlib.Core.Path.{◌≡◌, refl, ap, ◌∙◌}
use mathlib.Core.List.{List, [], ◌∷◌}
use native.Mathlib.Omega.{arith}
use lib.ListN.{length}
use Rattle.std.specs.Prelude.{Ok, Err}
use Rattle.std.proofs.lemmas.Result.{err_from_is_err_and}
use Rattle.records.specs.Numbers.{with_record}
use Rattle.meaning.specs.File.{readFILE}
use Rattle.meaning.proofs.FileLaws.{length-read}
use Rattle.meaning.specs.Store.{channel, channel_to}
use Rattle.meaning.specs.Tables.{Tables, tables, store_of, put, put_all, channel_record}
use Rattle.meaning.specs.ChannelCalls.{read}
use Rattle.meaning.specs.Result.{Result, done}
use Rattle.meaning.specs.Run.{Call, result_of, meaning, accepts, answer_of, bytes_of, changes_of, Promise, refusal, accepted}
use Rattle.meaning.proofs.PromiseLaws.{kept, kept_refusal}
use Rattle.meaning.specs.declared.Report.{Report}
use Rattle.layout.specs.Layout.{sound_layout}
use Rattle.soundness.specs.WellFacts.{file-size}
use Rattle.lookup.specs.Filed.{sound_well}
use Rattle.tables.specs.declared.ChannelRecord.{ChannelRecord}
use Rattle.files.specs.Files.{HasFile, Reads}
use Rattle.files.specs.FileLaws.{has_file}
use Rattle.channels.specs.Held.{OnChannel, Holds, on_channel_of}
use Rattle.channels.specs.HeldLaws.{refuses, holding, gives, channel_there, file_there, file_used, posn-within}
use Rattle.channels.specs.Move.{moved_by}
use Rattle.channels.proofs.read.Goals as goal

abbrev rest : Tables → ℕ → ℕ → Result
rest t c size =
    let y = (store_of t).channel c in
    let out = readFILE ((store_of t).file y.file).bytes y.posn size in
    done (length out ∷ []) out (channel c (channel_to y.file (y.posn + length out)) ∷ [])

on_channel_lem : (t : Tables) (c size : ℕ) → on_channel_of t c (rest t c size) ≡ result_of (Call.Read c size) t
unfolding result_of meaning accepts read on_channel_of
on_channel_lem t c size = refl

module _ (t : Tables) (c : ℕ) where
  refused_so : (buffer : List ℕ) (why : Report) → OnChannel t c (Err why)
      → Promise (Call.Read c (length buffer)) t buffer (record { answer = refusal 1 why; buffer = buffer; tables = t })
  refused_so buffer why on =
      kept_refusal (Call.Read c (length buffer)) t buffer why (refuses t c why on (rest t c (length buffer)) ∙ on_channel_lem t c (length buffer))

  module _ (y : ChannelRecord) (on : OnChannel t c (Ok y)) where
    holds : Holds t c y
    holds = holding t c y on

    has : HasFile t.blocks t.block_records t.file_records y.file.0
    has = has_file t (sound_layout t holds.ok) y.file.0 (file_there t c y holds).0 (file_there t c y holds).1

    module _ (buffer after : List ℕ) (n : ℕ) (reads : Reads t.blocks t.block_records t.file_records y.file.0 y.position buffer after n) where
      near : y.position + n < 4294967296
      near =
          let u = file_used t c y holds in
          omega (
            arith,
            posn-within t c y holds,
            reads.counts t.channel_records,
            length-read ((store_of t).file y.file.0).bytes y.position (length buffer),
            file-size (store_of t) (sound_well t holds.ok) y.file.0 u.some u.within,
          )

      gave : (next : ChannelRecord) → next ≡ moved_by y n
          → (records : List ℕ) → records ≡ with_record 8 t.channel_records c (channel_record next.file.0 next.position)
          → Promise (Call.Read c (length buffer)) t buffer
          (record { answer = accepted (n ∷ []); buffer = after; tables = tables t.blocks t.block_records t.file_records records })
      unfolding answer_of bytes_of changes_of put_all put
      gave next moved records p =
          let out = readFILE ((store_of t).file y.file.0).bytes y.position (length buffer) in
          let result = done (n ∷ []) out (channel c (channel_to y.file.0 (y.position + n)) ∷ []) in
          let means : result ≡ result_of (Call.Read c (length buffer)) t =
          rw (reads.counts t.channel_records, holds.file, holds.posn) (gives t c y on (rest t c (length buffer)) ∙ on_channel_lem t c (length buffer)) in
          kept (Call.Read c (length buffer)) t buffer result means
          (record { answer = accepted (n ∷ []); buffer = after; tables = tables t.blocks t.block_records t.file_records records }) refl
          (reads.fills t.channel_records) (ap (tables t.blocks t.block_records t.file_records) (rw (p, moved)))

pub returns-in_err-channel : goal.returns-in_err-channel
returns-in_err-channel c =
    let p = err_from_is_err_and c.from_residual.result c.from_residual.ensures.1 in
    rw (p.1, p.2) (refused_so _ _ _ _ c.in_err-channel.ensures)

pub read_file-n-requires : goal.read_file-n-requires
read_file-n-requires c = has _ _ _ c.in_ok-channel.ensures

pub moved_by-next-requires : goal.moved_by-next-requires
moved_by-next-requires c = near _ _ _ c.in_ok-channel.ensures _ _ _ c.read_file-n.ensures

pub put_channel_record-requires : goal.put_channel_record-requires
put_channel_record-requires c = channel_there _ _ _ (holding _ _ _ c.in_ok-channel.ensures)

pub returns : goal.returns
returns c = gave _ _ _ c.in_ok-channel.ensures _ _ _ c.read_file-n.ensures _ c.moved_by-next.ensures _ c.put_channel_record.ensures
