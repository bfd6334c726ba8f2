-- A refusal leaves all as it was; else the file's record says length and kind.
use Prim.Native.Nat.{ℕ, ◌-◌}
use mathlib.Core.Path.{◌≡◌, refl, sym, ap, ◌∙◌}
use mathlib.Core.Logic.{◌≢◌}
use mathlib.Core.List.{[], ◌∷◌}
use lib.ListN.{length}
use Rattle.std.specs.Prelude.{Ok, Err}
use Rattle.std.proofs.lemmas.Result.{err_from_is_err_and}
use Rattle.meaning.specs.Tables.{Tables, store_of, put_all}
use Rattle.meaning.specs.Types.{kind_number}
use Rattle.meaning.specs.ChannelCalls.{fstat}
use Rattle.meaning.specs.Result.{Result, done}
use Rattle.meaning.specs.Run.{Call, result_of, meaning, accepts, Promise, refusal, accepted}
use Rattle.meaning.proofs.PromiseLaws.{kept_refusal, kept_done}
use Rattle.meaning.specs.declared.Kind.TheVariants.{File, Directory}
use Rattle.meaning.specs.declared.Report.{Report}
use Rattle.tables.specs.declared.ChannelRecord.{ChannelRecord}
use Rattle.tables.specs.declared.FileRecord.{FileRecord}
use Rattle.tables.specs.Read.{FileRead}
use Rattle.channels.specs.Held.{OnChannel, Holds, on_channel_of}
use Rattle.channels.specs.HeldLaws.{refuses, holding, gives, file_there, plain_file, size_is, kind_is}
use Rattle.channels.proofs.fstat.Goals.{then-record, else-record}
use Rattle.channels.proofs.fstat.Goals as goal

abbrev rest : Tables → ℕ → Result
rest t c =
    let f = ((store_of t).channel c).file in
    done (length ((store_of t).file f).bytes ∷ f ∷ ((store_of t).file f).kind ∷ []) [] []

on_channel_lem : (t : Tables) (c : ℕ) → on_channel_of t c (rest t c) ≡ result_of (Call.Fstat c) t
unfolding result_of meaning accepts fstat on_channel_of
on_channel_lem t c = refl

module _ (t : Tables) (c : ℕ) where
  refused_so : (why : Report) → OnChannel t c (Err why) → Promise (Call.Fstat c) t [] (record { answer = refusal 3 why; buffer = []; tables = t })
  refused_so why on = kept_refusal (Call.Fstat c) t [] why (refuses t c why on (rest t c) ∙ on_channel_lem t c)

  module _ (y : ChannelRecord) (on : OnChannel t c (Ok y)) (x : FileRecord) (read : FileRead t.file_records (y.file.0 - 1) x) where
    holds : Holds t c y
    holds = holding t c y on

    kind : ((store_of t).file ((store_of t).channel c).file).kind ≡ x.kind
    kind = kind_is t c y holds ∙ sym read.kind

    -- a file in use is a directory or ordinary
    directory : x.kind ≡ 2 → kind_number Directory ≡ x.kind
    directory e = sym e

    ordinary : x.kind ≢ 2 → kind_number File ≡ x.kind
    ordinary other =
        let same : ((store_of t).file y.file.0).kind ≡ x.kind = rw holds.file kind in
        sym (sym same ∙ (plain_file t c y holds (rw same other)).kind)

    told : (k : ℕ) → k ≡ x.kind → Promise (Call.Fstat c) t [] (record { answer = accepted (x.length ∷ y.file.0 ∷ k ∷ []); buffer = []; tables = t })
    unfolding put_all
    told k is =
        let size = size_is t c y holds ∙ sym read.length in
        let means : done (x.length ∷ y.file.0 ∷ k ∷ []) [] [] ≡ result_of (Call.Fstat c) t =
        rw (size, kind, ← is, ← holds.file) at (gives t c y on (rest t c) ∙ on_channel_lem t c) in
        kept_done (Call.Fstat c) t [] (x.length ∷ y.file.0 ∷ k ∷ []) [] [] means t refl

pub returns-in_err-channel : goal.returns-in_err-channel
returns-in_err-channel c =
    let p = err_from_is_err_and c.from_residual.result c.from_residual.ensures.1 in
    rw (p.1, p.2) (refused_so _ _ _ c.in_err-channel.ensures)

pub file_record-record-requires : goal.file_record-record-requires
file_record-record-requires c = file_there _ _ _ (holding _ _ _ c.in_ok-channel.ensures)

pub returns : goal.returns
returns c =
    told _ _ _ c.in_ok-channel.ensures _ c.file_record-record.ensures _
    (elim c.if-record.branch [
      | then-record w ↦ ap kind_number w.kind-is ∙ directory _ _ _ c.in_ok-channel.ensures _ c.file_record-record.ensures w.if-record.true
      | else-record w ↦ ap kind_number w.kind-is ∙ ordinary _ _ _ c.in_ok-channel.ensures _ c.file_record-record.ensures w.if-record.false
    ])
