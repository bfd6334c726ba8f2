-- read, seek and fstat are their schemas.
use Rattle.std.specs.Prelude.{ℕ, ◌+◌, ◌≤◌, ◌≡◌, List, true, length, ltb}
use Rattle.std.proofs.Math.Path.{refl, ap}
use Rattle.std.proofs.Common.{◌∙◌, ltb-false}
use Rattle.std.proofs.lemmas.Bool.{not-false}
use Rattle.meaning.specs.File.{readFILE}
use Rattle.meaning.specs.Store.{Store, Channel, after_all, channel_to, is_open}
use Rattle.meaning.specs.Result.{on_channel}
use Rattle.meaning.specs.ChannelCalls.{read, seek, seek_to, fstat, last_position}
use Rattle.source.specs.Filing.{readFS, seekFS, fstatFS}
use Rattle.source.specs.View.{chan_of, view}
use Rattle.source.specs.ViewLaws.{channel_there}
use Rattle.source.specs.FileLaws.{read_schema}
use Rattle.source.specs.StateLaws.{access}
use Rattle.source.specs.StepLaws.{channel_files}
use Rattle.source.specs.Moves.{over_own}
use Rattle.source.specs.Accepted.{Ready, accepted, past, neither}
use Rattle.source.specs.ChannelStatements.{ReadHolds, SeekHolds, FstatHolds}
use Rattle.source.specs.HeldChannel.{its_file, filing, moved, frame, change, same_names}

module _ (s : Store) (ready : Ready s) (c : ℕ) (o : is_open s c ≡ true) where
  abbrev y : Channel
  y = s.channel c

  -- ---- read

  abbrev out : ℕ → List ℕ
  out count = readFILE (s.file y.file).bytes y.posn count

  read_moves : (count : ℕ) → readFS c count (out count) (view s) (view (moved s ready c o (y.posn + length (out count))))
  read_moves count =
      let p = y.posn + length (out count) in
      record {
        change = change s ready c o p;
        reads =
            record {
              chan = chan_of y;
              chan' = chan_of (channel_to y.file p);
              file = (s.file y.file).bytes;
              file' = (s.file y.file).bytes;
              frame = frame s ready c o p;
              reads =
                  record {
                    reads =
                        record {
                          frame =
                              record {
                                is = its_file s ready c o;
                                others = channel_files s c (channel_to y.file p) ∙ over_own (view s).fstore y.file (s.file y.file).bytes (its_file s ready c o);
                              };
                          reads = read_schema (s.file y.file).bytes y.posn count;
                        };
                    channel = record { fid = refl };
                    posn = refl;
                  };
            };
        names = same_names s ready c o p;
      }

  -- ---- seek

  abbrev to : ℕ → ℕ → ℕ
  to mode n = seek_to mode y.posn (length (s.file y.file).bytes) n

  seek_moves : (mode n : ℕ) → mode ≤ 5 → seekFS c n mode (to mode n) (view s) (view (moved s ready c o (to mode n)))
  unfolding seek_to
  seek_moves mode n options =
      let p = to mode n in
      let by : (k : ℕ) → mode ≡ k → to mode n ≡ to k n = λ k e. ap (λ (m : ℕ). to m n) e in
      record {
        change = change s ready c o p;
        seeks =
            record {
              chan = chan_of y;
              chan' = chan_of (channel_to y.file p);
              frame = frame s ready c o p;
              seeks = record { channel = record { fid = refl }; files = channel_files s c (channel_to y.file p); posn = refl };
            };
        by_option =
            record {
              options = options;
              file = (s.file y.file).bytes;
              of = its_file s ready c o;
              start = by 0;
              current = by 1;
              end = by 2;
              start_512 = by 3;
              current_512 = by 4;
              end-512 = by 5;
            };
        names = same_names s ready c o p;
      }

  -- ---- fstat

  stat_stays : fstatFS c (length (s.file y.file).bytes) (view s) (view s)
  stat_stays =
      record {
        change = record { before = filing s ready c o; after = (filing s ready c o) };
        stat =
            record {
              access = record { before = access (view s) (filing s ready c o); after = access (view s) (filing s ready c o) };
              chan = chan_of y;
              file = (s.file y.file).bytes;
              is = channel_there s c o;
              files = refl;
              channels = refl;
              of = its_file s ready c o;
              answers = refl;
            };
        names = record { names = refl; directories = refl };
      }

-- ---- the calls

pub read-holds : ReadHolds
unfolding read on_channel after_all
read-holds s ready c count =
    past _ _ _ _ λ e.
    accepted _ _ _ _ (read_moves s ready c (not-false (is_open s c) e) count, refl)

pub seek-holds : SeekHolds
unfolding seek on_channel after_all
seek-holds s ready c mode n =
    past _ _ _ _ λ e.
    past _ _ _ _ λ small.
    let o = not-false (is_open s c) e in
    let p = to s ready c o mode n in
    let (options, bits) = neither (ltb 5 mode) (ltb last_position p) small in
    accepted _ _ _ _ (p, seek_moves s ready c o mode n (ltb-false 5 mode options), refl, ltb-false last_position p bits)

pub fstat-holds : FstatHolds
unfolding fstat on_channel after_all stat_stays
fstat-holds s ready c =
    past _ _ _ _ λ e.
    accepted _ _ _ _ (length (s.file (s.channel c).file).bytes, stat_stays s ready c (not-false (is_open s c) e), refl)
