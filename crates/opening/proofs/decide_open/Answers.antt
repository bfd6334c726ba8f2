-- Each return is a case of what open gives on a well-written name, by the tests that led there.
use Rattle.std.specs.Prelude.{ℕ, ◌≡◌, refl, ◌≢◌, List, [], ◌∷◌, Option, Result as Answers, Ok, Err, ok_or}
use Rattle.std.proofs.Common.{◌∙◌}
use Rattle.std.proofs.lemmas.Result.{err_from_is_err_and}
use Rattle.meaning.specs.Store.{channel, channel_to, named, free_channel}
use Rattle.meaning.specs.Tables.{Tables, store_of, channel_count}
use Rattle.meaning.specs.NameCalls.{open'}
use Rattle.meaning.specs.Result.{Result, done, unless, missing, all_open}
use Rattle.meaning.specs.Run.{Call, result_of, meaning, accepts}
use Rattle.meaning.specs.declared.Report.{Report}
use Rattle.meaning.specs.declared.Report.TheVariants.{NoSuchName, NoFreeCids}
use Rattle.meaning.specs.declared.ChannelNo.{ChannelNo}
use Rattle.meaning.specs.declared.FileNo.{FileNo}
use Rattle.tables.specs.Searches.{channel_with, channel_found}
use Rattle.lookup.specs.Filed.{filed}
use Rattle.naming.specs.Judged.{OnName, Spelled, on_name_of}
use Rattle.naming.specs.Located.{Locates}
use Rattle.naming.specs.At.{At, judged_shelves, stands_at, follows, not_old, not_missing, stands_for}
use Rattle.naming.specs.declared.Located.{Located}
use Rattle.naming.specs.declared.Located.TheVariants.{Old}
use Rattle.placing.specs.Free.{few-channels, reports, finds, no_channel_free, channel_free, channel_below, some_channel_free}
use Rattle.opening.specs.Open.{Decided}
use Rattle.opening.proofs.decide_open.Goals as goal

abbrev rest : Tables → List (List ℕ) → Result
rest t name =
    let s = store_of t in
    let c = free_channel s in
    unless (missing s name) NoSuchName (unless (all_open s) NoFreeCids (done (c ∷ []) [] (channel c (channel_to (named s name) 0) ∷ [])))

on_name_lem : (t : Tables) (bytes : List ℕ) → on_name_of t bytes (rest t) ≡ result_of (Call.Open bytes) t
unfolding result_of meaning accepts open' on_name_of
on_name_lem t bytes = refl

refusal : (t : Tables) (bytes : List ℕ) (why : Report) → OnName t bytes (Err why) → Decided t bytes (Err why)
refusal t bytes why on = record { means = on (rest t) ∙ on_name_lem t bytes; fits = tt }

module _ (t : Tables) (bytes : List ℕ) (k : ℕ) (sp : Spelled t bytes k) (x : Located) (l : Locates (filed t.blocks t.block_records t.file_records) bytes x) where
  at : At t bytes k x
  at = stands_at t.blocks t.block_records t.file_records t.channel_records bytes k sp x l

  given : rest t at.name ≡ result_of (Call.Open bytes) t
  given = follows t bytes k x at (rest t) ∙ on_name_lem t bytes

  no_name : ((d f : FileNo) → x ≢ Old d f) → Decided t bytes (Err NoSuchName)
  unfolding unless
  no_name other = record { means = rw (not_old t bytes k x at other) at given; fits = tt }

  module _ (d f : FileNo) (is : x ≡ Old d f) (y : Option ChannelNo) (found : y ≡ channel_found (channel_count t.channel_records) (channel_with t.channel_records 0)) where
    all_open_lem : (why : Report) → ◌≡◌ {A = Answers ChannelNo Report} (Err why) (ok_or y NoFreeCids) → Decided t bytes (Err why)
    unfolding unless
    all_open_lem why e =
        let r = reports NoFreeCids y why e in
        rw r.1 (record { means = rw (not_missing t bytes k x at d f is, no_channel_free t y found r.0) at given; fits = tt })

    opened : (c : ChannelNo) → ◌≡◌ {A = Answers ChannelNo Report} (Ok c) (ok_or y NoFreeCids) → Decided t bytes (Ok (c, f))
    unfolding unless
    opened c e =
        let spare = finds NoFreeCids y c e in
        record {
          means =
              rw (not_missing t bytes k x at d f is, some_channel_free t y found c spare, channel_free t y found c spare, ← stands_for t bytes k x at d f is) at given;
          fits = channel_below t y found c spare;
        }

pub returns-in_err-k : goal.returns-in_err-k
returns-in_err-k c =
    let p = err_from_is_err_and c.from_residual.result c.from_residual.ensures.1 in
    rw (p.1, p.2) (refusal _ _ _ c.in_err-k.ensures)

pub locate-requires-clause-shelves : goal.locate-requires-clause-shelves
locate-requires-clause-shelves c = judged_shelves _ _ _ _ _ _ c.in_ok-k.ensures

pub returns-in_default : goal.returns-in_default
returns-in_default c = no_name _ _ _ c.in_ok-k.ensures _ c.locate.ensures c.in_default.not-Old

pub find_channel-requires : goal.find_channel-requires
find_channel-requires c = few-channels _ c.in_ok-k.ensures.ok

pub returns-in_err-channel : goal.returns-in_err-channel
returns-in_err-channel c =
    let p = err_from_is_err_and c.from_residual-in_err-channel.result c.from_residual-in_err-channel.ensures.1 in
    rw (p.1, p.2) (all_open_lem _ _ _ c.in_ok-k.ensures _ c.locate.ensures _ _ c.in-Old.is _ c.find_channel.ensures _ c.in_err-channel.ensures.value)

pub returns : goal.returns
returns c = opened _ _ _ c.in_ok-k.ensures _ c.locate.ensures _ _ c.in-Old.is _ c.find_channel.ensures _ c.in_ok-channel.ensures.value
