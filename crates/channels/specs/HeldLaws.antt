-- What a call on a channel goes by, once it has asked for what the channel holds.
use Rattle.std.specs.Prelude.{ℕ, ◌-◌, ◌≤◌, ◌<◌, ◌≡◌, ◌≢◌, false, not, length, ltb, eqb, Ok, Err}
use Rattle.std.proofs.Common.{ap, sym, ◌∙◌, arith}
use Rattle.std.proofs.Math.Bool.{true}
use borrow.Author.Tests.{ltb-true, lt-ltb, le-ltb, eq-eqb, ne_eqb}
use Rattle.records.specs.Tests.{and_left}
use Rattle.meaning.specs.Store.{is_open}
use Rattle.meaning.specs.Tables.{Tables, store_of, channel_of, file_count, channel_count, kind_at, length_at, channel_file_at}
use Rattle.meaning.specs.Sound.{sound}
use Rattle.meaning.specs.ChannelCalls.{last_position}
use Rattle.meaning.specs.Result.{Result, refused, unless, on_channel}
use Rattle.meaning.specs.Decisions.{refusing, planning}
use Rattle.meaning.specs.declared.Report.{Report}
use Rattle.meaning.specs.declared.Report.TheVariants.{NotAStore, NoSuchCid}
use Rattle.tables.specs.declared.ChannelRecord.{ChannelRecord}
use Rattle.tables.specs.Read.{ChannelRead}
use Rattle.tables.specs.StoreLaws.{store_kind, store_length}
use Rattle.soundness.specs.Use.{Used}
use Rattle.soundness.specs.Well.{OrdinaryFile}
use Rattle.soundness.specs.WellFacts.{form-ordinary, open_channel, held_used}
use Rattle.lookup.specs.Filed.{sound_well}
use Rattle.channels.specs.Held.{on_channel_of, Holds, OnChannel}

-- ---- the first refusals, by the tests that lead to them

module _ (t : Tables) (c : ℕ) where
  pub on_unsound : sound t ≡ false → OnChannel t c (Err NotAStore)
  unfolding on_channel_of unless
  on_unsound e = record { decides = λ rest. refusing (λ y. rest) (Holds t c) (on_channel_of t c rest) NotAStore (rw e) }

  not_open : sound t ≡ true → is_open (store_of t) c ≡ false → OnChannel t c (Err NoSuchCid)
  unfolding on_channel_of unless on_channel
  not_open ok e = record { decides = λ rest. refusing (λ y. rest) (Holds t c) (on_channel_of t c rest) NoSuchCid (rw (ok, e)) }

  pub on_beyond : sound t ≡ true → channel_count t.channel_records ≤ c → OnChannel t c (Err NoSuchCid)
  unfolding is_open store_of
  on_beyond ok h = not_open ok (rw (le-ltb c (channel_count t.channel_records) h))

  module _ (ok : sound t ≡ true) (below : c < channel_count t.channel_records) (y : ChannelRecord) (read : ChannelRead t.channel_records c y) where
    pub on_free : y.file.0 ≡ 0 → OnChannel t c (Err NoSuchCid)
    unfolding is_open store_of channel_of
    on_free e = not_open ok (rw (lt-ltb c (channel_count t.channel_records) below, eq-eqb (channel_file_at t.channel_records c) 0 (sym read.file ∙ e)))

    pub on_open : y.file.0 ≢ 0 → OnChannel t c (Ok y)
    unfolding on_channel_of unless on_channel is_open store_of channel_of
    on_open d =
        let is : is_open (store_of t) c ≡ true =
        rw (lt-ltb c (channel_count t.channel_records) below, ne_eqb (channel_file_at t.channel_records c) 0 (λ e. d (read.file ∙ e))) in
        let holds : Holds t c y = record { ok = ok; is_open_lem = is; file = read.file; posn = read.position } in
        record { decides = λ rest. planning (λ y. rest) (Holds t c) (on_channel_of t c rest) y (rw (ok, is)) holds }

-- ---- what follows

pub refuses : (t : Tables) (c : ℕ) (why : Report) → OnChannel t c (Err why) → (rest : Result) → refused why ≡ on_channel_of t c rest
refuses t c why on rest = (on.decides rest).means

module _ (t : Tables) (c : ℕ) (y : ChannelRecord) (on : OnChannel t c (Ok y)) where
  pub gives : (rest : Result) → rest ≡ on_channel_of t c rest
  gives rest = (on.decides rest).means

  pub holding : Holds t c y
  holding = (on.decides (refused NoSuchCid)).fits

module _ (t : Tables) (c : ℕ) (y : ChannelRecord) (h : Holds t c y) where
  pub channel_there : c < channel_count t.channel_records
  unfolding is_open store_of
  channel_there =
      ltb-true c (channel_count t.channel_records) (and_left (ltb c (store_of t).channel_count) (not (eqb ((store_of t).channel c).file 0)) h.is_open_lem)

  pub file_used : Used (store_of t) y.file.0
  file_used = rw h.file (held_used (store_of t) (sound_well t h.ok) c h.is_open_lem)

  -- as a need asks it: the file's record lies in its table
  pub file_there : (0 < y.file.0) × (y.file.0 ≤ file_count t.file_records)
  unfolding store_of
  file_there = (file_used.some, file_used.within)

  -- a file that is no directory is ordinary
  pub plain_file : ((store_of t).file y.file.0).kind ≢ 2 → OrdinaryFile ((store_of t).file y.file.0)
  plain_file plain =
      form-ordinary ((store_of t).file y.file.0) ((sound_well t h.ok).files y.file.0 file_used.some file_used.within) file_used.kind plain

  pub posn-within : y.position ≤ last_position
  posn-within = omega (arith, h.posn, (open_channel (store_of t) (sound_well t h.ok) c h.is_open_lem).posn)

  pub size_is : length ((store_of t).file ((store_of t).channel c).file).bytes ≡ length_at t.file_records (y.file.0 - 1)
  size_is = ap (λ f. length ((store_of t).file f).bytes) (sym h.file) ∙ store_length t y.file.0 file_there.0

  pub kind_is : ((store_of t).file ((store_of t).channel c).file).kind ≡ kind_at t.file_records (y.file.0 - 1)
  kind_is = ap (λ f. ((store_of t).file f).kind) (sym h.file) ∙ store_kind t y.file.0 file_there.0
