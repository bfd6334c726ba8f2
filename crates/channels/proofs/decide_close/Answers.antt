-- Whether the file goes is whether it is an orphan once its channel is closed.
use Prim.Native.Nat.{ℕ, ◌-◌, ◌<◌}
use mathlib.Core.Path.{◌≡◌, refl, sym, ap, ◌∙◌}
use mathlib.Core.Logic.{◌≢◌}
use mathlib.Core.List.{[], ◌∷◌}
use mathlib.Core.Bool.{Bool, true, false, ◌&&◌}
use lib.Dec.{eqb}
use native.Mathlib.Omega.{arith}
use Rattle.std.specs.Bool.{then_some}
use Rattle.std.specs.Prelude.{Ok, Err}
use Rattle.std.proofs.lemmas.Result.{err_from_is_err_and}
use Rattle.meaning.specs.Store.{channel, no_channel, in_use, names, let_go}
use Rattle.meaning.specs.Tables.{Tables, store_of, channel_of}
use Rattle.meaning.specs.ChannelCalls.{close}
use Rattle.meaning.specs.Result.{Result, done}
use Rattle.meaning.specs.Run.{Call, result_of, meaning, accepts}
use Rattle.meaning.specs.declared.Report.{Report}
use Rattle.layout.specs.Layout.{sound_layout}
use Rattle.soundness.specs.Use.{of_used}
use Rattle.soundness.specs.Slots.{directories_store}
use Rattle.lookup.specs.Filed.{names-seen}
use Rattle.tables.specs.Read.{FileRead}
use Rattle.tables.specs.Searches.{channels_with}
use Rattle.tables.specs.declared.ChannelRecord.{ChannelRecord}
use Rattle.tables.specs.declared.FileRecord.{FileRecord}
use Rattle.files.specs.FileLaws.{clearable}
use Rattle.counts.specs.OfStore.{OfStore, of_store}
use Rattle.channels.specs.Held.{OnChannel, Holds, on_channel_of}
use Rattle.channels.specs.HeldLaws.{refuses, holding, gives, channel_there, file_there, file_used, kind_is}
use Rattle.channels.specs.Close.{Closes}
use Rattle.channels.specs.CloseLaws.{closed, holders, goes_where}
use Rattle.channels.proofs.decide_close.Goals.{then-is, else-is, then-count_channels-eq1, else-count_channels-eq1}
use Rattle.channels.proofs.decide_close.Goals as goal

abbrev rest : Tables → ℕ → Result
rest t c = done [] [] (channel c no_channel ∷ let_go (closed (store_of t) c) ((store_of t).channel c).file)

on_channel_lem : (t : Tables) (c : ℕ) → on_channel_of t c (rest t c) ≡ result_of (Call.Close c) t
unfolding result_of meaning accepts close on_channel_of
on_channel_lem t c = refl

-- a row of tests, of which a later one is asked only where an earlier one passes
module _ (a b v : Bool) where
  asked : (w : Bool) → a ≡ w → a ≡ true → v ≡ b → v ≡ w && b
  asked w is e so = so ∙ rw (sym is ∙ e)

  not_asked : (w : Bool) → a ≡ w → a ≡ false → v ≡ a → v ≡ w && b
  not_asked w is e so = so ∙ e ∙ rw (sym is ∙ e)

module _ (t : Tables) (c : ℕ) where
  refusal : (why : Report) → OnChannel t c (Err why) → Closes t c (Err why)
  refusal why on = record { means = refuses t c why on (rest t c) ∙ on_channel_lem t c; fits = tt }

  module _ (y : ChannelRecord) (on : OnChannel t c (Ok y)) where
    abbrev f : ℕ
    f = ((store_of t).channel c).file

    holds : Holds t c y
    holds = holding t c y on

    given : rest t c ≡ result_of (Call.Close c) t
    given = gives t c y on (rest t c) ∙ on_channel_lem t c

    below : c < (store_of t).channel_count
    unfolding store_of
    below = channel_there t c y holds

    some : f ≢ 0
    some = omega (arith, (file_there t c y holds).0, holds.file)

    used : in_use (store_of t) f ≡ true
    used = rw (← holds.file) (of_used (store_of t) y.file.0 (file_used t c y holds))

    of_file : OfStore t.blocks t.block_records t.file_records y.file.0
    of_file = of_store t holds.ok y.file.0 (file_there t c y holds).1

    module _ (x : FileRecord) (read : FileRead t.file_records (y.file.0 - 1) x) where
      kind : ((store_of t).file f).kind ≡ x.kind
      kind = kind_is t c y holds ∙ sym read.kind

      count : holders (store_of t) f ≡ channels_with t.channel_records y.file.0
      unfolding store_of channel_of channels_with
      count = ap (channels_with t.channel_records) (sym holds.file)

      name-count : names (store_of t) f ≡ names (directories_store t.blocks t.block_records t.file_records) y.file.0
      name-count = ap (names (store_of t)) (sym holds.file) ∙ names-seen t.blocks t.block_records t.file_records t.channel_records y.file.0

      -- ordinary, held by one channel, named by no record: as the code asks it
      abbrev one_holder : Bool
      one_holder = eqb x.kind 1 && eqb (channels_with t.channel_records y.file.0) 1

      abbrev lone : Bool
      lone = one_holder && eqb (names (directories_store t.blocks t.block_records t.file_records) y.file.0) 0

      decides : (goes : Bool) → lone ≡ goes → Closes t c (Ok (then_some goes y.file))
      decides true e =
          let gone = goes_where (store_of t) c f below refl some used in
          record {
            means = rw (gone, kind, count, name-count, e, ← holds.file) at given;
            fits = record {
              below = channel_there t c y holds;
              can_go = clearable t (sound_layout t holds.ok) y.file.0 (file_there t c y holds).0 (file_there t c y holds).1;
            };
          }
      decides false e =
          let gone = goes_where (store_of t) c f below refl some used in
          record { means = rw (gone, kind, count, name-count, e) at given; fits = record { below = channel_there t c y holds; can_go = tt } }

pub returns-in_err-file : goal.returns-in_err-file
returns-in_err-file c =
    let p = err_from_is_err_and c.from_residual.result c.from_residual.ensures.1 in
    rw (p.1, p.2) (refusal _ _ _ c.in_err-file.ensures)

pub file_record-requires : goal.file_record-requires
file_record-requires c = file_there _ _ _ (holding _ _ _ c.in_ok-file.ensures)

pub names_of-requires : goal.names_of-requires
names_of-requires c = of_file _ _ _ c.in_ok-file.ensures

pub returns : goal.returns
returns c =
    let on = c.in_ok-file.ensures in
    let read = c.file_record.ensures in
    let held : c.if-is.value ≡ one_holder _ _ _ on _ read =
    elim c.if-is.branch [
      | then-is w ↦ asked _ _ _ _ c.is.ensures w.if-is.true (w.value-is ∙ ap (λ n. eqb n 1) w.count_channels.ensures)
      | else-is w ↦ not_asked _ _ _ _ c.is.ensures w.if-is.false w.value-is
    ] in
    let goes : c.if-count_channels-eq1.goes ≡ lone _ _ _ on _ read =
    elim c.if-count_channels-eq1.branch [
      | then-count_channels-eq1 w ↦ asked _ _ _ _ held w.if-count_channels-eq1.true (w.goes-is ∙ ap (λ n. eqb n 0) w.names_of.ensures)
      | else-count_channels-eq1 w ↦ not_asked _ _ _ _ held w.if-count_channels-eq1.false w.goes-is
    ] in
    rw c.then_some.ensures (decides _ _ _ on _ read _ (sym goes))
