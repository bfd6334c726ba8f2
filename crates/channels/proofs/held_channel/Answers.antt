-- Each return is a case of the refusals that come first, by the tests that led there.
use Prim.Native.Nat.{ℕ, ◌/◌, ◌≤◌, ◌<◌}
use mathlib.Core.Path.{◌≡◌, sym, ◌∙◌}
use mathlib.Core.Bool.{Bool, true, false, not}
use lib.Dec.{eqb}
use lib.ListN.{length}
use borrow.Author.Tests.{not-true, not-false, eqb-true, eqb_apart}
use Rattle.std.specs.Prelude.{Ok, Err}
use Rattle.meaning.specs.Tables.{Tables}
use Rattle.meaning.specs.Sound.{sound}
use Rattle.meaning.specs.declared.Report.TheVariants.{NotAStore, NoSuchCid}
use Rattle.tables.specs.declared.ChannelRecord.{ChannelRecord}
use Rattle.tables.specs.Read.{ChannelRead}
use Rattle.channels.specs.Held.{OnChannel}
use Rattle.channels.specs.HeldLaws.{on_unsound, on_beyond, on_free, on_open}
use Rattle.channels.proofs.held_channel.Goals as goal

module _ (t : Tables) (c : ℕ) (ok : Bool) (is : ok ≡ sound t) where
  unsound : not ok ≡ true → OnChannel t c (Err NotAStore)
  unsound e = on_unsound t c (sym is ∙ not-true ok e)

  module _ (so : not ok ≡ false) where
    beyond : length t.channel_records / 8 ≤ c → OnChannel t c (Err NoSuchCid)
    beyond h = on_beyond t c (sym is ∙ not-false ok so) h

    module _ (h : c < length t.channel_records / 8) (y : ChannelRecord) (read : ChannelRead t.channel_records c y) (none : Bool) (tells : none ≡ eqb y.file.0 0) where
      free : none ≡ true → OnChannel t c (Err NoSuchCid)
      free e = on_free t c (sym is ∙ not-false ok so) h y read (eqb-true y.file.0 0 (sym tells ∙ e))

      held : none ≡ false → OnChannel t c (Ok y)
      held e = on_open t c (sym is ∙ not-false ok so) h y read (eqb_apart y.file.0 0 (sym tells ∙ e))

pub returns-then-not-is_sound : goal.returns-then-not-is_sound
returns-then-not-is_sound c = search unsound

pub returns-then-store-c : goal.returns-then-store-c
returns-then-store-c c = search beyond

pub returns-then-is_none : goal.returns-then-is_none
returns-then-is_none c = search free

pub returns : goal.returns
returns c = search held
