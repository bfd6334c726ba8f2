-- Each return is a case of what write gives on a channel in use, by the tests that led there.
use Prim.Native.Nat.{ℕ, ◌+◌, ◌-◌, ◌≤◌, ◌<◌, max}
use mathlib.Core.Path.{◌≡◌, refl, sym, ◌∙◌}
use mathlib.Core.List.{List, [], ◌∷◌}
use mathlib.Core.Bool.{Bool, true, false}
use native.Mathlib.Omega.{arith}
use borrow.Author.Tests.{lt-ltb, le-ltb, ltb-true, ltb-false}
use lib.ListN.{length}
use lib.Dec.{ltb, eqb}
use Rattle.meaning.specs.File.{writeFILE, needed, longest}
use Rattle.meaning.proofs.FileLaws.{length-write}
use Rattle.meaning.specs.Store.{file, channel, channel_to, ordinary, free_blocks}
use Rattle.meaning.specs.Tables.{Tables, store_of}
use Rattle.meaning.specs.ChannelCalls.{write}
use Rattle.meaning.specs.Result.{Result, done, unless, if_fits}
use Rattle.meaning.specs.Run.{Call, result_of, meaning, accepts}
use Rattle.meaning.specs.declared.Report.{Report}
use Rattle.meaning.specs.declared.Report.TheVariants.{IsDirectory, TooBig, NoRoom}
use Rattle.tables.specs.Read.{FileRead}
use Rattle.tables.specs.Searches.{free_block_count}
use Rattle.tables.specs.declared.ChannelRecord.{ChannelRecord}
use Rattle.tables.specs.declared.FileRecord.{FileRecord}
use Rattle.layout.specs.Layout.{sound_layout}
use Rattle.layout.specs.Counting.{free_block_count_lem}
use Rattle.layout.specs.Fits.{FileFits}
use Rattle.soundness.specs.Well.{OrdinaryFile}
use Rattle.soundness.specs.WellFacts.{file-size}
use Rattle.lookup.specs.Filed.{sound_well}
use Rattle.files.specs.Files.{with_write}
use Rattle.files.specs.FileLaws.{writable}
use Rattle.channels.specs.Held.{OnChannel, Holds, on_channel_of}
use Rattle.channels.specs.HeldLaws.{refuses, holding, gives, channel_there, file_used, file_there, plain_file, size_is, kind_is}
use Rattle.std.specs.Prelude.{Ok, Err}
use Rattle.std.proofs.lemmas.Result.{err_from_is_err_and}
use Rattle.std.proofs.lemmas.Bool.{eqb-false}
use Rattle.writing.specs.Write.{Decided}
use Rattle.writing.proofs.decide_write.Goals as goal

abbrev rest : Tables → ℕ → List ℕ → Result
rest t c bytes =
    let y = (store_of t).channel c in
    let old = (store_of t).file y.file in
    let new = writeFILE old.bytes y.posn bytes in
    unless (eqb old.kind 2) IsDirectory
    (if_fits (store_of t) (length old.bytes) (length new)
    (done (length bytes ∷ []) [] (file y.file (ordinary new) ∷ channel c (channel_to y.file (y.posn + length bytes)) ∷ [])))

on_channel_lem : (t : Tables) (c : ℕ) (bytes : List ℕ) → on_channel_of t c (rest t c bytes) ≡ result_of (Call.Write c bytes) t
unfolding result_of meaning accepts write on_channel_of
on_channel_lem t c bytes = refl

module _ (t : Tables) (c n : ℕ) where
  refusal : (why : Report) → OnChannel t c (Err why) → Decided t c n (Err why)
  refusal why on bytes l = record { means = refuses t c why on (rest t c bytes) ∙ on_channel_lem t c bytes; fits = tt }

  module _ (y : ChannelRecord) (on : OnChannel t c (Ok y)) where
    holds : Holds t c y
    holds = holding t c y on

    given : (bytes : List ℕ) → rest t c bytes ≡ result_of (Call.Write c bytes) t
    given bytes = gives t c y on (rest t c bytes) ∙ on_channel_lem t c bytes

    module _ (x : FileRecord) (read : FileRead t.file_records (y.file.0 - 1) x) where
      kind : ((store_of t).file ((store_of t).channel c).file).kind ≡ x.kind
      kind = kind_is t c y holds ∙ sym read.kind

      size : length ((store_of t).file ((store_of t).channel c).file).bytes ≡ x.length
      size = size_is t c y holds ∙ sym read.length

      short_file : x.length ≤ longest
      short_file =
          let u = file_used t c y holds in
          let s : length ((store_of t).file y.file.0).bytes ≡ x.length = rw holds.file size in
          omega (arith, file-size (store_of t) (sound_well t holds.ok) y.file.0 u.some u.within)

      new-size : (bytes : List ℕ) → length bytes ≡ n
          → length (writeFILE ((store_of t).file ((store_of t).channel c).file).bytes ((store_of t).channel c).posn bytes) ≡ max x.length (y.position + n)
      new-size bytes l =
          length-write ((store_of t).file ((store_of t).channel c).file).bytes ((store_of t).channel c).posn bytes ∙ rw (size, l, ← holds.posn)

      on_directory : eqb x.kind 2 ≡ true → Decided t c n (Err IsDirectory)
      unfolding unless
      on_directory k bytes l = record { means = rw (kind, k) at (given bytes); fits = tt }

      module _ (plain : eqb x.kind 2 ≡ false) (long : Bool) (is-long : long ≡ ltb longest (y.position + n)) where
        too_big : long ≡ true → Decided t c n (Err TooBig)
        unfolding unless if_fits
        too_big so bytes l =
            let m : longest < max x.length (y.position + n) = omega (arith, ltb-true longest (y.position + n) (sym is-long ∙ so)) in
            record {
              means = rw (kind, plain, new-size bytes l, lt-ltb longest (max x.length (y.position + n)) m) at (given bytes);
              fits = tt;
            }

        module _ (no : long ≡ false) where
          near : y.position + n ≤ longest
          near = ltb-false longest (y.position + n) (sym is-long ∙ no)

          few : max x.length (y.position + n) ≤ longest
          few = omega (arith, near, short_file)

          module _ (more : ℕ) (is-more : more ≡ needed (max x.length (y.position + n)) - needed x.length)
              (free : ℕ) (is_free : free ≡ free_block_count t.block_records) where
            free_is : free_blocks (store_of t) ≡ free
            free_is = sym (is_free ∙ free_block_count_lem t (sound_layout t holds.ok))

            no_room : free < more → Decided t c n (Err NoRoom)
            unfolding unless if_fits
            no_room m bytes l =
                record {
                  means =
                      rw (
                        kind,
                        plain,
                        new-size bytes l,
                        le-ltb longest (max x.length (y.position + n)) few,
                        size,
                        ← is-more,
                        free_is,
                        lt-ltb free more m,
                      ) at (given bytes);
                  fits = tt;
                }

            form : OrdinaryFile ((store_of t).file y.file.0)
            form = plain_file t c y holds (rw (holds.file, kind) (eqb-false x.kind 2 plain))

            fits : more ≤ free → (bytes : List ℕ) → length bytes ≡ n → FileFits (store_of t) y.file.0 (with_write ((store_of t).file y.file.0) y.position bytes)
            fits m bytes l =
                let u = file_used t c y holds in
                let s : length ((store_of t).file y.file.0).bytes ≡ x.length = rw holds.file size in
                let new : length (writeFILE ((store_of t).file y.file.0).bytes y.position bytes) ≡ max x.length (y.position + n) =
                rw (holds.file, holds.posn) (rw holds.posn at (new-size bytes l)) in
                record {
                  from_one = u.some;
                  to_last = u.within;
                  used = λ some. u.kind;
                  room = rw (new, s) (omega (arith, is-more, free_is));
                }

            room : more ≤ free → Decided t c n (Ok y)
            unfolding unless if_fits
            room m bytes l =
                record {
                  means =
                      rw (
                        kind,
                        plain,
                        new-size bytes l,
                        le-ltb longest (max x.length (y.position + n)) few,
                        size,
                        ← is-more,
                        free_is,
                        le-ltb free more m,
                        ← holds.file,
                        ← holds.posn,
                      ) at (given bytes);
                  fits = record {
                    below = channel_there t c y holds;
                    near = near;
                    kind = form.kind;
                    depth = form.depth;
                    writable = λ bytes l. writable t (sound_layout t holds.ok) y.file.0 y.position bytes (fits m bytes l);
                  };
                }

pub returns-in_err-channel : goal.returns-in_err-channel
returns-in_err-channel c =
    let p = err_from_is_err_and c.from_residual.result c.from_residual.ensures.1 in
    rw (p.1, p.2) (refusal _ _ _ _ c.in_err-channel.ensures)

pub file_record-record-requires : goal.file_record-record-requires
file_record-record-requires c = file_there _ _ _ (holding _ _ _ c.in_ok-channel.ensures)

pub returns-then-is : goal.returns-then-is
returns-then-is c = on_directory _ _ _ _ c.in_ok-channel.ensures _ c.file_record-record.ensures (sym c.is.ensures ∙ c.if-is.true)

pub returns-then-too_long : goal.returns-then-too_long
returns-then-too_long c =
    too_big _ _ _ _ c.in_ok-channel.ensures _ c.file_record-record.ensures (sym c.is.ensures ∙ c.if-is.false) _ c.too_long.ensures c.if-too_long.true

pub new_blocks-more-requires : goal.new_blocks-more-requires
new_blocks-more-requires c =
    near _ _ _ _ c.in_ok-channel.ensures _ c.file_record-record.ensures (sym c.is.ensures ∙ c.if-is.false) _ c.too_long.ensures c.if-too_long.false

pub returns-then-count_free_blocks-more : goal.returns-then-count_free_blocks-more
returns-then-count_free_blocks-more c =
    no_room _ _ _ _ c.in_ok-channel.ensures _ c.file_record-record.ensures (sym c.is.ensures ∙ c.if-is.false) _ c.too_long.ensures c.if-too_long.false
    _ c.new_blocks-more.ensures _ c.count_free_blocks.ensures c.if-count_free_blocks-more.true

pub returns : goal.returns
returns c =
    room _ _ _ _ c.in_ok-channel.ensures _ c.file_record-record.ensures (sym c.is.ensures ∙ c.if-is.false) _ c.too_long.ensures c.if-too_long.false
    _ c.new_blocks-more.ensures _ c.count_free_blocks.ensures c.if-count_free_blocks-more.false
