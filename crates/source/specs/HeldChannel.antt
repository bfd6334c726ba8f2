-- An open channel, the file that it refers to, and the channel moved with no file changed.
use Rattle.std.specs.Prelude.{ℕ, ◌<◌, ◌≡◌, refl, ◌≢◌, true}
use Rattle.std.proofs.Math.Option.{some}
use Rattle.std.proofs.Common.{arith}
use Rattle.meaning.specs.Store.{Store, Channel, channel, after, channel_to, in_use, is_open}
use Rattle.soundness.specs.Use.{used}
use Rattle.soundness.specs.WellFacts.{open_channel}
use Rattle.source.specs.Sets.{◌∈dom◌}
use Rattle.source.specs.Channels.{ΦAS}
use Rattle.source.specs.Filing.{FS, ΔFS, ΞNS}
use Rattle.source.specs.View.{chan_of, view}
use Rattle.source.specs.ViewLaws.{file_there, open_below}
use Rattle.source.specs.Invariants.{filing_system}
use Rattle.source.specs.Moves.{filed, put-names, put-change, put-frame}
use Rattle.source.specs.Accepted.{Ready}

module _ (s : Store) (ready : Ready s) (c : ℕ) (o : is_open s c ≡ true) where
  abbrev pub y : Channel
  y = s.channel c

  pub below : c < s.channel_count
  below = open_below s c o

  pub its_use : in_use s y.file ≡ true
  its_use = (open_channel s ready.well c o).is_in_use

  pub there : y.file ≢ 0
  there z = omega (arith, (used s y.file its_use).some)

  pub its_file : (view s).fstore y.file ≡ some (s.file y.file).bytes
  its_file = file_there s y.file its_use

  pub filing : FS (view s)
  filing = filing_system s ready.well ready.some_file

  pub exists : y.file ∈dom (view s).fstore
  exists = ((s.file y.file).bytes, its_file)

  -- the channel moved to position p, with no file changed
  module _ (p : ℕ) where
    abbrev pub moved : Store
    moved = after s (channel c (channel_to y.file p))

    abbrev pub frame : ΦAS (view s).fstore (view moved).fstore (view s).cstore (view moved).cstore c (chan_of y) (chan_of (channel_to y.file p))
    frame = put-frame s s (filed s filing) c (channel_to y.file p) below there exists o refl

    abbrev pub change : ΔFS (view s) (view moved)
    change = put-change s s (filed s filing) c (channel_to y.file p) below there exists

    abbrev pub same_names : ΞNS (view s) (view moved)
    same_names = put-names s s (filed s filing) c (channel_to y.file p) below there exists
