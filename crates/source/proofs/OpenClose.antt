-- open and close are their schemas.
use Rattle.std.specs.Prelude.{ℕ, ◌<◌, ◌≡◌, ◌≢◌, true, false, ltb}
use Rattle.std.proofs.Math.Path.{refl}
use Rattle.std.proofs.Common.{ap, sym, ◌∙◌, true≢false}
use Rattle.std.proofs.Math.Option.{some}
use Rattle.std.proofs.Math.Dec.{eqb}
use borrow.Author.Tests.{ltb-true, eqb-true, not-false}
use Rattle.records.specs.RowLaws.{lowest_hit}
use Rattle.records.specs.Tests.{and_false}
use Rattle.meaning.specs.Store.{Store, Channel, channel, after, after_all, no_channel, channel_to, root, in_use, is_directory, is_open, free_channel, named, let_go}
use Rattle.meaning.specs.Result.{on_channel, all_open}
use Rattle.meaning.specs.ChannelCalls.{close}
use Rattle.meaning.specs.NameCalls.{open'}
use Rattle.soundness.specs.WellFacts.{root-directory, ordinary-form}
use Rattle.trees.specs.Standing.{missing_some}
use Rattle.source.specs.Sets.{◌∈dom◌, ◌∉dom◌}
use Rattle.source.specs.Channels.{CHAN}
use Rattle.source.specs.Naming.{NAME}
use Rattle.source.specs.Filing.{by_channel, FS, openFS, closeFS}
use Rattle.source.specs.Departures.{Closing}
use Rattle.source.specs.View.{chan_of, view}
use Rattle.source.specs.ViewLaws.{numbered_some, file_there, channel_there}
use Rattle.source.specs.Invariants.{filing_system, name_used}
use Rattle.source.specs.StateLaws.{value, defined, without_value, still_filing}
use Rattle.source.specs.StepLaws.{channel_files, channel_dirs, channel_bytes, channel_names, channel_dropped}
use Rattle.source.specs.Tree.{Tree, same_tree, well_tree}
use Rattle.source.specs.Freeing.{let_go_lem}
use Rattle.source.specs.Moves.{filed, put_channel, put-change}
use Rattle.source.specs.Accepted.{Ready, accepted, past, spelled}
use Rattle.source.specs.ChannelStatements.{OpenHolds, CloseHolds}
use Rattle.source.specs.HeldChannel.{its_use}

-- ---- the lowest free channel

module _ (s : Store) (free : all_open s ≡ false) where
  pub free_below : free_channel s < s.channel_count
  unfolding all_open
  free_below = ltb-true (free_channel s) s.channel_count (not-false (ltb (free_channel s) s.channel_count) free)

  pub free_new : free_channel s ∉dom (view s).cstore
  unfolding free_channel is_open
  free_new =
      let c = free_channel s in
      let none-held : (s.channel c).file ≡ 0 = eqb-true (s.channel c).file 0 (lowest_hit s.channel_count (λ c. eqb (s.channel c).file 0) free_below) in
      rw (none-held, and_false (ltb c s.channel_count))

-- ---- open

module _ (s : Store) (ready : Ready s) (name : NAME) (there : named s name ≢ 0) (free : all_open s ≡ false) where
  abbrev c : ℕ
  c = free_channel s

  abbrev y : Channel
  y = channel_to (named s name) 0

  filing : FS (view s)
  filing = filing_system s ready.well ready.some_file

  exists : named s name ∈dom (view s).fstore
  exists = ((s.file (named s name)).bytes, file_there s (named s name) (name_used s ready.well ready.some_file name there))

  opened : openFS name c (view s) (view (after s (channel c y)))
  opened =
      record {
        change = put-change s s (filed s filing) c y (free_below s free) there exists;
        files = channel_files s c y;
        chan = chan_of y;
        channel =
            record {
              new = free_new s free;
              start = refl;
              opens = put_channel s s (filed s filing) c y (free_below s free) there exists;
            };
        names = record { is = numbered_some (named s name) there; stays = (channel_names s c y).names };
        unchanged = channel_names s c y;
      }

pub open-holds : OpenHolds
unfolding open' after_all
open-holds s ready bytes name e =
    spelled _ name _ _ e (
    past _ _ _ _ λ there.
    past _ _ _ _ λ free.
    accepted _ _ _ _ (free_channel s, opened s ready name (missing_some s name there) free, refl, free_below s free))

-- ---- close

module _ (s : Store) (ready : Ready s) (c : ℕ) (o : is_open s c ≡ true) where
  abbrev f : ℕ
  f = (s.channel c).file

  abbrev t : Store
  t = after s (channel c no_channel)

  before : FS (view s)
  before = filing_system s ready.well ready.some_file

  refers : (cid : ℕ) (chan : CHAN) → (view t).cstore cid ≡ some chan → chan.fid ∈dom (view t).fstore
  refers cid chan e =
      let old = without_value (view s).cstore (λ d. eqb d c) cid chan (sym (value (channel_dropped s c no_channel refl) cid) ∙ e) in
      defined (channel_files s c no_channel) chan.fid (before.used chan.fid (by_channel cid chan old refl))

  after-close : FS (view t)
  after-close = still_filing (view s) (view t) before (channel_names s c no_channel) (λ g h. defined (channel_files s c no_channel) g h) refers

  closed : closeFS c (view s) (view t)
  closed =
      record {
        change = record { before = before; after = after-close };
        files = channel_files s c no_channel;
        channel = record { exists = (chan_of (s.channel c), channel_there s c o); closes = channel_dropped s c no_channel refl };
        names = channel_names s c no_channel;
      }

  tree : Tree t
  tree = same_tree s t (channel_dirs s c no_channel) (channel_bytes s c no_channel) (well_tree s ready.well)

  u : in_use s f ≡ true
  u = its_use s ready c o

  plain : is_directory s f ≡ false → (s.file f).kind ≡ 1
  plain isnt = (ordinary-form s ready.well f u isnt).kind

  not_root : is_directory s f ≡ false → f ≢ root
  not_root isnt e = true≢false (sym (root-directory s ready.well ready.some_file) ∙ ap (is_directory s) (sym e) ∙ isnt)

  use_stays : in_use t f ≡ in_use s f
  unfolding in_use after
  use_stays = refl

  kind_stays : (t.file f).kind ≡ (s.file f).kind
  unfolding after
  kind_stays = refl

  closes : Closing c (view s) (view (after_all t (let_go t f)))
  closes =
      record {
        chan = chan_of (s.channel c);
        is = channel_there s c o;
        closes = (view t, closed, let_go_lem t tree after-close f (use_stays ∙ u) (λ isnt. kind_stays ∙ plain (sym (channel_dirs s c no_channel f) ∙ isnt)) (λ isnt. not_root (sym (channel_dirs s c no_channel f) ∙ isnt)));
      }

pub close-holds : CloseHolds
unfolding close on_channel after_all
close-holds s ready c =
    past _ _ _ _ λ e.
    accepted _ _ _ _ (closes s ready c (not-false (is_open s c) e), refl)
