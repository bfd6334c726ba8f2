-- What is decided is done: a refusal leaves the tables; else the file is written, then the channel's record with its position moved.
use Prim.Native.Nat.{ℕ, ◌+◌}
use mathlib.Core.Path.{◌≡◌, refl, ap, ◌∙◌}
use mathlib.Core.List.{List, [], ◌∷◌}
use borrow.Author.Rules.{rules}
use lib.ListN.{length}
use Rattle.records.specs.Numbers.{with_record}
use Rattle.meaning.specs.Store.{Change, file, channel, channel_to, ordinary}
use Rattle.meaning.specs.Tables.{Tables, tables, store_of, put, put_all, channel_record}
use Rattle.meaning.specs.Run.{Call, Promise, refusal, accepted}
use Rattle.meaning.proofs.PromiseLaws.{kept_refusal, kept_done}
use Rattle.meaning.specs.declared.Report.{Report}
use Rattle.tables.specs.declared.ChannelRecord.{ChannelRecord}
use Rattle.files.specs.Files.{with_write}
use Rattle.channels.specs.Move.{moved_by}
use Rattle.std.specs.Prelude.{Ok, Err}
use Rattle.std.proofs.lemmas.Result.{err_from_is_err_and}
use Rattle.writing.specs.Write.{Decided, Ready, written}
use Rattle.writing.proofs.write.Goals as goal

-- a file's change, then a channel's
both_put : (t u : Tables) (change : Change) (c f posn : ℕ) → u ≡ put t change
    → tables u.blocks u.block_records u.file_records (with_record 8 u.channel_records c (channel_record f posn)) ≡ put_all t (change ∷ channel c (channel_to f posn) ∷ [])
unfolding put put_all
both_put t u change c f posn e = ap (λ u. put u (channel c (channel_to f posn))) e

module _ (b br fr cr : List ℕ) (c : ℕ) (bytes : List ℕ) where
  abbrev t : Tables
  t = tables b br fr cr

  refuses : (why : Report) → Decided t c (length bytes) (Err why) → Promise (Call.Write c bytes) t [] (record { answer = refusal 1 why; buffer = []; tables = t })
  refuses why decided = kept_refusal (Call.Write c bytes) t [] why (decided bytes refl).means

  module _ (y : ChannelRecord) (decided : Decided t c (length bytes) (Ok y)) where
    ready : Ready t c (length bytes) y
    ready = (decided bytes refl).fits

    -- an ordinary file stays one
    same_kind : with_write ((store_of t).file y.file.0) y.position bytes ≡ ordinary (written t y bytes)
    same_kind = λ i. record { kind = ready.kind i; depth = ready.depth i; bytes = written t y bytes }

    writes : (b' br' fr' : List ℕ)
        → ((channels : List ℕ) → tables b' br' fr' channels
        ≡ put (tables b br fr channels) (file y.file.0 (with_write ((store_of (tables b br fr channels)).file y.file.0) y.position bytes)))
        → (next : ChannelRecord) → next ≡ moved_by y (length bytes)
        → (records : List ℕ) → records ≡ with_record 8 cr c (channel_record next.file.0 next.position)
        → Promise (Call.Write c bytes) t [] (record { answer = accepted (length bytes ∷ []); buffer = []; tables = tables b' br' fr' records })
    writes b' br' fr' wrote next moved records p =
        let change = file y.file.0 (ordinary (written t y bytes)) in
        let position = y.position + length bytes in
        let put-so : tables b' br' fr' cr ≡ put t change = wrote cr ∙ ap (λ x. put t (file y.file.0 x)) same_kind in
        let q : records ≡ with_record 8 cr c (channel_record y.file.0 position) = rw (p, moved) in
        kept_done (Call.Write c bytes) t [] (length bytes ∷ []) [] (change ∷ channel c (channel_to y.file.0 position) ∷ [])
        (decided bytes refl).means
        (tables b' br' fr' records) (ap (tables b' br' fr') q ∙ both_put t (tables b' br' fr' cr) change c y.file.0 position put-so)

pub returns-in_err-channel : goal.returns-in_err-channel
returns-in_err-channel c =
    let p = err_from_is_err_and c.from_residual.result c.from_residual.ensures.1 in
    rw (p.1, p.2) (refuses _ _ _ _ _ _ _ c.in_err-channel.ensures)

pub write_file-requires : goal.write_file-requires
write_file-requires c = (ready _ _ _ _ _ c.args.«data».now _ c.in_ok-channel.ensures).writable _ refl

pub moved_by-next-requires : goal.moved_by-next-requires
moved_by-next-requires c = let near = (ready _ _ _ _ _ c.args.«data».now _ c.in_ok-channel.ensures).near in search rules

pub put_channel_record-requires : goal.put_channel_record-requires
put_channel_record-requires c = (ready _ _ _ _ _ c.args.«data».now _ c.in_ok-channel.ensures).below

pub overflow_cast-result : goal.overflow_cast-result
overflow_cast-result c = let near = (ready _ _ _ _ _ c.args.«data».now _ c.in_ok-channel.ensures).near in search rules

pub returns : goal.returns
returns c = writes _ _ _ _ _ _ _ c.in_ok-channel.ensures _ _ _ c.write_file.ensures _ c.moved_by-next.ensures _ c.put_channel_record.ensures
