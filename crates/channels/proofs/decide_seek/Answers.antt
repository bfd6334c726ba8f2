-- Each return is a case of what seek gives on a channel in use, by the tests that led there.
use Prim.Native.Nat.{ℕ, ◌-◌, ◌≤◌, ◌<◌}
use mathlib.Core.Path.{◌≡◌, refl, ap, ◌∙◌}
use mathlib.Core.List.{[], ◌∷◌}
use mathlib.Core.Bool.{Bool, true, false, ◌||◌}
use native.Mathlib.Omega.{arith}
use borrow.Author.Tests.{lt-ltb, le-ltb}
use lib.ListN.{length}
use lib.Dec.{ltb}
use Rattle.std.specs.Prelude.{Option, Some, None, Ok, Err, ok_or, Result as Answers}
use Rattle.std.proofs.lemmas.Result.{err_from_is_err_and}
use Rattle.records.specs.Rows.{pick}
use Rattle.meaning.specs.Store.{channel, channel_to}
use Rattle.meaning.specs.Tables.{Tables, store_of}
use Rattle.meaning.specs.ChannelCalls.{seek, seek_to, last_position}
use Rattle.meaning.specs.Result.{Result, done, unless}
use Rattle.meaning.specs.Run.{Call, result_of, meaning, accepts}
use Rattle.meaning.specs.declared.Report.{Report}
use Rattle.meaning.specs.declared.Report.TheVariants.{BadSeek}
use Rattle.tables.specs.declared.ChannelRecord.{ChannelRecord}
use Rattle.tables.specs.declared.FileRecord.{FileRecord}
use Rattle.tables.specs.Read.{FileRead}
use Rattle.channels.specs.Held.{OnChannel, on_channel_of}
use Rattle.channels.specs.HeldLaws.{refuses, holding, gives, channel_there, file_there, size_is}
use Rattle.channels.specs.Seek.{Decided}
use Rattle.channels.proofs.decide_seek.Goals as goal

-- a mode that leads somewhere, and one that does not
module _ (v : ℕ) where
  somewhere : (high : Bool) (to : ℕ) → ◌≡◌ {A = Answers ℕ Report} (Ok to) (ok_or (pick high None (Some v)) BadSeek) → (high ≡ false) × (to ≡ v)
  somewhere true to e = let z : ◌≡◌ {A = ℕ} 0 1 = cc in absurd (omega arith)
  somewhere false to e = (refl, cc)

  nowhere : (high : Bool) (why : Report) → ◌≡◌ {A = Answers ℕ Report} (Err why) (ok_or (pick high None (Some v)) BadSeek) → (high ≡ true) × (why ≡ BadSeek)
  nowhere true why e = (refl, cc)
  nowhere false why e = let z : ◌≡◌ {A = ℕ} 0 1 = cc in absurd (omega arith)

-- where it leads from an open channel, and what it gives then
abbrev leads : Tables → ℕ → ℕ → ℕ → ℕ
leads t c mode n = seek_to mode ((store_of t).channel c).posn (length ((store_of t).file ((store_of t).channel c).file).bytes) n

abbrev rest : Tables → ℕ → ℕ → ℕ → Result
rest t c mode n =
    let to = leads t c mode n in
    unless (ltb 5 mode || ltb last_position to) BadSeek (done (to ∷ []) [] (channel c (channel_to ((store_of t).channel c).file to) ∷ []))

on_channel_lem : (t : Tables) (c mode n : ℕ) → on_channel_of t c (rest t c mode n) ≡ result_of (Call.Seek c mode n) t
unfolding result_of meaning accepts seek on_channel_of
on_channel_lem t c mode n = refl

module _ (t : Tables) (c mode n : ℕ) where
  refusal : (why : Report) → OnChannel t c (Err why) → Decided t c mode n (Err why)
  refusal why on = record { means = refuses t c why on (rest t c mode n) ∙ on_channel_lem t c mode n; fits = tt }

  module _ (y : ChannelRecord) (on : OnChannel t c (Ok y)) (x : FileRecord) (read : FileRead t.file_records (y.file.0 - 1) x)
      (s : Option ℕ) (is : s ≡ pick (ltb 5 mode) None (Some (seek_to mode y.position x.length n))) where
    given : rest t c mode n ≡ result_of (Call.Seek c mode n) t
    given = gives t c y on (rest t c mode n) ∙ on_channel_lem t c mode n

    mode_above : (why : Report) → ◌≡◌ {A = Answers ℕ Report} (Err why) (ok_or s BadSeek) → Decided t c mode n (Err why)
    unfolding unless
    mode_above why e =
        let high = nowhere (seek_to mode y.position x.length n) (ltb 5 mode) why (e ∙ ap (λ s. ok_or s BadSeek) is) in
        rw high.1 (record { means = rw high.0 at given; fits = tt })

    module _ (to : ℕ) (e : ◌≡◌ {A = Answers ℕ Report} (Ok to) (ok_or s BadSeek)) where
      low : (ltb 5 mode ≡ false) × (to ≡ seek_to mode y.position x.length n)
      low = somewhere (seek_to mode y.position x.length n) (ltb 5 mode) to (e ∙ ap (λ s. ok_or s BadSeek) is)

      leads-to : leads t c mode n ≡ to
      leads-to =
          let d = holding t c y on in
          let p = d.posn in
          let l = size_is t c y d in
          let r = read.length in
          let there = low.1 in
          cc

      far : last_position < to → Decided t c mode n (Err BadSeek)
      unfolding unless
      far m = record { means = rw (low.0, leads-to, lt-ltb last_position to m) at given; fits = tt }

      near : to ≤ last_position → Decided t c mode n (Ok (record { file = y.file; position = to }))
      unfolding unless
      near m =
          let d = holding t c y on in
          record { means = rw (low.0, leads-to, le-ltb last_position to m, ← d.file) at given; fits = channel_there t c y d }

pub returns-in_err-channel : goal.returns-in_err-channel
returns-in_err-channel c =
    let p = err_from_is_err_and c.from_residual.result c.from_residual.ensures.1 in
    rw (p.1, p.2) (refusal _ _ _ _ _ c.in_err-channel.ensures)

pub file_record-record-requires : goal.file_record-record-requires
file_record-record-requires c = file_there _ _ _ (holding _ _ _ c.in_ok-channel.ensures)

pub returns-in_err-to : goal.returns-in_err-to
returns-in_err-to c =
    let p = err_from_is_err_and c.from_residual-in_err-to.result c.from_residual-in_err-to.ensures.1 in
    rw (p.1, p.2)
    (mode_above _ _ _ _ _ c.in_ok-channel.ensures _ c.file_record-record.ensures _ c.seek_to.ensures _ c.in_err-to.ensures.value)

pub returns-then-to : goal.returns-then-to
returns-then-to c =
    let past : last_position < c.in_ok-to.to = omega arith in
    far _ _ _ _ _ c.in_ok-channel.ensures _ c.file_record-record.ensures _ c.seek_to.ensures _ c.in_ok-to.ensures.value past

pub returns : goal.returns
returns c =
    let within : c.in_ok-to.to ≤ last_position = omega arith in
    near _ _ _ _ _ c.in_ok-channel.ensures _ c.file_record-record.ensures _ c.seek_to.ensures _ c.in_ok-to.ensures.value within
