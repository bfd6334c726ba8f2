-- write is its schema.
use Rattle.std.specs.Prelude.{ℕ, ◌+◌, ◌≡◌, ◌≢◌, List, true, false, length}
use Rattle.std.proofs.Math.Path.{refl}
use Rattle.std.proofs.Common.{◌∙◌, arith}
use Rattle.std.proofs.lemmas.Bool.{eqb-false, not-false}
use Rattle.records.specs.Tests.{not_so}
use Rattle.meaning.specs.File.{writeFILE}
use Rattle.meaning.specs.Store.{Store, Channel, file, channel, after, after_all, channel_to, ordinary, is_directory, is_open}
use Rattle.meaning.specs.Result.{on_channel, if_fits}
use Rattle.meaning.specs.ChannelCalls.{write}
use Rattle.soundness.specs.Use.{used, directory-kind}
use Rattle.source.specs.Sets.{◌∈dom◌, ◌⊕◌, ◌⟼◌, the}
use Rattle.source.specs.Filing.{writeFS}
use Rattle.source.specs.View.{chan_of, view}
use Rattle.source.specs.FileLaws.{write_schema}
use Rattle.source.specs.StateLaws.{defined, over_defined}
use Rattle.source.specs.StepLaws.{channel_files, file-channels, file-names, file-put}
use Rattle.source.specs.Moves.{Filed, put-names, put-change, put-frame}
use Rattle.source.specs.Accepted.{Ready, accepted, past}
use Rattle.source.specs.ChannelStatements.{WriteHolds}
use Rattle.source.specs.HeldChannel.{below, its_use, there, its_file, filing, exists}

module _ (s : Store) (ready : Ready s) (c : ℕ) (o : is_open s c ≡ true) where
  abbrev y : Channel
  y = s.channel c

  -- ---- write

  module _ (bytes : List ℕ) (kind : (s.file y.file).kind ≢ 2) where
    abbrev old : List ℕ
    old = (s.file y.file).bytes

    abbrev new : List ℕ
    new = writeFILE old y.posn bytes

    abbrev t : Store
    t = after s (file y.file (ordinary new))

    plain : is_directory s y.file ≡ false
    plain = not_so (is_directory s y.file) (λ is. kind (directory-kind s y.file is))

    put : (view t).fstore ≡ (view s).fstore ⊕ the y.file ⟼ new
    put =
        let u = used s y.file (its_use s ready c o) in
        file-put s y.file (ordinary new) u.some u.within (λ (e : 1 ≡ 0). absurd (omega arith))

    same_count : t.channel_count ≡ s.channel_count
    unfolding after
    same_count = refl

    kept : (f : ℕ) → f ∈dom (view s).fstore → f ∈dom (view t).fstore
    kept f h = defined put f (over_defined (view s).fstore (the y.file) new f h)

    written : Filed s t
    written =
        record {
          filing = filing s ready c o;
          count = same_count;
          channels = file-channels s y.file (ordinary new);
          names = file-names s y.file (ordinary new) plain (λ (e : 1 ≡ 2). absurd (omega arith));
          kept = kept;
        }

    abbrev z : Channel
    z = channel_to y.file (y.posn + length bytes)

    write_moves : writeFS c bytes (view s) (view (after t (channel c z)))
    write_moves =
        record {
          change = put-change s t written c z (below s ready c o) (there s ready c o) (kept y.file (exists s ready c o));
          writes =
              record {
                chan = chan_of y;
                chan' = chan_of z;
                file = old;
                file' = new;
                frame = put-frame s t written c z (below s ready c o) (there s ready c o) (kept y.file (exists s ready c o)) o refl;
                writes =
                    record {
                      writes =
                          record {
                            frame = record { is = its_file s ready c o; others = channel_files t c z ∙ put };
                            writes = write_schema old y.posn bytes;
                          };
                      channel = record { fid = refl };
                      posn = refl;
                    };
              };
          names = put-names s t written c z (below s ready c o) (there s ready c o) (kept y.file (exists s ready c o));
        }

pub write-holds : WriteHolds
unfolding write on_channel if_fits after_all
write-holds s ready c bytes =
    past _ _ _ _ λ e.
    past _ _ _ _ λ kind.
    past _ _ _ _ λ size.
    past _ _ _ _ λ room.
    let f = (s.channel c).file in
    accepted _ _ _ _ (write_moves s ready c (not-false (is_open s c) e) bytes (eqb-false (s.file f).kind 2 kind), refl)
