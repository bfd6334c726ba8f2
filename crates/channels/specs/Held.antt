-- A call on a channel: the refusals that come before every other, and what is known where they do not come.
use Rattle.std.specs.Prelude.{ℕ, ◌≡◌, true, not, Result as Answers}
use Rattle.meaning.specs.Store.{is_open}
use Rattle.meaning.specs.Tables.{Tables, store_of}
use Rattle.meaning.specs.Sound.{sound}
use Rattle.meaning.specs.Result.{Result, unless, on_channel}
use Rattle.meaning.specs.Decisions.{Decides}
use Rattle.meaning.specs.declared.Report.{Report}
use Rattle.meaning.specs.declared.Report.TheVariants.{NotAStore}
use Rattle.tables.specs.declared.ChannelRecord.{ChannelRecord}

-- what a call on channel c gives, where `rest` follows on a channel that is open
unfoldable pub on_channel_of : Tables → ℕ → Result → Result
on_channel_of t c rest = unless (not (sound t)) NotAStore (on_channel (store_of t) c rest)

-- channel c of a sound store is open, and y is its record
pub record Holds (t : Tables) (c : ℕ) (y : ChannelRecord) : Type 0 where
  pub ok : sound t ≡ true
  pub is_open_lem : is_open (store_of t) c ≡ true
  pub file : y.file.0 ≡ ((store_of t).channel c).file
  pub posn : y.position ≡ ((store_of t).channel c).posn

-- the refusal, or the record of an open channel, on which whatever is to follow follows
pub record OnChannel (t : Tables) (c : ℕ) (h : Answers ChannelRecord Report) : Type 0 where
  pub decides : (rest : Result) → Decides (λ (y : ChannelRecord). rest) (Holds t c) (on_channel_of t c rest) h
