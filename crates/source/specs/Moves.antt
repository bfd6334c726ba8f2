-- A channel that is moved, or opened: the frame that read, write and seek share.
use Rattle.std.specs.Prelude.{ℕ, ◌<◌, ◌≡◌, refl, ◌≢◌, true}
use Rattle.std.proofs.Common.{ap, sym, ◌∙◌, ⊎_elim}
use Rattle.std.proofs.Math.Option.{some}
use Rattle.meaning.specs.Store.{Store, Channel, channel, after, is_open}
use Rattle.source.specs.Sets.{◌⇸◌, ◌∈dom◌, ◌⊕◌, ◌⟼◌, the}
use Rattle.source.specs.Channels.{CHAN, ΦAS}
use Rattle.source.specs.Filing.{State, by_channel, FS, ΔFS, ΞNS}
use Rattle.source.specs.View.{chan_of, view}
use Rattle.source.specs.ViewLaws.{channel_there, changed}
use Rattle.source.specs.StateLaws.{value, defined, over_value, accesses, still_filing}
use Rattle.source.specs.StepLaws.{channel_files, channel_names, channel_put}

pub unchanged : (x y z : State) → ΞNS x y → ΞNS y z → ΞNS x z
unchanged x y z a b = record { names = b.names ∙ a.names; directories = b.directories ∙ a.directories }

-- a value put where it is already
pub over_own : {B : Type 0} (f : ℕ ⇸ B) (a : ℕ) (b : B) → f a ≡ some b → f ≡ f ⊕ the a ⟼ b
over_own f a b e = changed f f a (λ x n. refl) b e

-- t is s after what a call did to files: names and channels are as they were, and no file is lost
pub record Filed (s t : Store) : Type 0 where
  pub filing : FS (view s)
  pub count : t.channel_count ≡ s.channel_count
  pub channels : (view t).cstore ≡ (view s).cstore
  pub names : ΞNS (view s) (view t)
  pub kept : (f : ℕ) → f ∈dom (view s).fstore → f ∈dom (view t).fstore

-- nothing was done
pub filed : (s : Store) → FS (view s) → Filed s s
filed s fs = record { filing = fs; count = refl; channels = refl; names = record { names = refl; directories = refl }; kept = λ f h. h }

-- then channel c gets the value y, which refers to an existing file
module _ (s t : Store) (h : Filed s t) (c : ℕ) (y : Channel) (below : c < s.channel_count) (there : y.file ≢ 0) (exists : y.file ∈dom (view t).fstore) where
  abbrev t' : Store
  t' = after t (channel c y)

  pub put-names : ΞNS (view s) (view t')
  put-names = unchanged (view s) (view t) (view t') h.names (channel_names t c y)

  pub put_channel : (view t').cstore ≡ (view s).cstore ⊕ the c ⟼ chan_of y
  put_channel = channel_put t c y (rw h.count below) there ∙ ap (λ (f : ℕ ⇸ CHAN). f ⊕ the c ⟼ chan_of y) h.channels

  in_t : (f : ℕ) → f ∈dom (view t).fstore → f ∈dom (view t').fstore
  in_t f u = defined (channel_files t c y) f u

  still : (f : ℕ) → f ∈dom (view s).fstore → f ∈dom (view t').fstore
  still f u = in_t f (h.kept f u)

  refers : (cid : ℕ) (chan : CHAN) → (view t').cstore cid ≡ some chan → chan.fid ∈dom (view t').fstore
  refers cid chan e =
      ⊎_elim
      (λ (new : (the c cid ≡ true) × (chan ≡ chan_of y)). rw new.1 (in_t y.file exists))
      (λ (old : (view s).cstore cid ≡ some chan). still chan.fid (h.filing.used chan.fid (by_channel cid chan old refl)))
      (over_value (view s).cstore (the c) (chan_of y) cid chan (sym (value put_channel cid) ∙ e))

  pub put-change : ΔFS (view s) (view t')
  put-change = record { before = h.filing; after = still_filing (view s) (view t') h.filing put-names still refers }

  -- the frame of the access system, where the channel was there and keeps its file
  pub put-frame : is_open s c ≡ true → y.file ≡ (s.channel c).file
      → ΦAS (view s).fstore (view t').fstore (view s).cstore (view t').cstore c (chan_of (s.channel c)) (chan_of y)
  put-frame o same =
      record {
        access = accesses (view s) (view t') put-change;
        channel = record { fid = same };
        is = channel_there s c o;
        others = put_channel;
      }
