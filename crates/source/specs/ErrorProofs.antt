-- The source's errors are reported exactly where they hold.
use Rattle.std.specs.Prelude.{ℕ, ◌≡◌, refl, ◌≢◌, ◌↔◌, List, not}
use Rattle.std.proofs.Math.Logic.Iff
use Rattle.meaning.specs.Store.{Store, Change, after_all, is_open}
use Rattle.meaning.specs.Result.{Result, refused, done, on_channel}
use Rattle.meaning.specs.ChannelCalls.{close, read, write, seek, fstat}
use Rattle.meaning.specs.Run.{meaning, changes_of, number_of}
use Rattle.meaning.specs.declared.Report.TheVariants.{Ok, NoSuchCid, IsDirectory, NoRoom, TooBig, BadSeek}
use Rattle.source.specs.Sets.{◌∉dom◌}
use Rattle.source.specs.View.{view}
use Rattle.source.specs.ErrorStatements.{report_of, left_by, UnalteredHolds, OnStores, CidErrs}
use Rattle.source.specs.Reports.{other_report, Never, never_done, never_unless, never_fits, reported-first}
use Rattle.source.specs.Causes.{not_open}

-- ---- a refusal changes nothing

left_alone : (s : Store) (r : Result) → report_of r ≢ Ok → left_by s r ≡ s
unfolding report_of changes_of after_all
left_alone s (refused why) n = refl
left_alone s (done numbers bytes changes) n = absurd (n refl)

pub unaltered : UnalteredHolds
unaltered s call n = left_alone s (meaning call s) n

-- ---- NoSuchCid

on_channel_lem : (s : Store) (c : ℕ) (r : Result) → Never NoSuchCid r → (report_of (on_channel s c r) ≡ NoSuchCid) ↔ (c ∉dom (view s).cstore)
unfolding on_channel
on_channel_lem s c r n = Iff.trans (reported-first NoSuchCid (not (is_open s c)) r n) (not_open s c)

done_cid : (numbers bytes : List ℕ) (changes : List Change) → Never NoSuchCid (done numbers bytes changes)
unfolding number_of
done_cid = never_done NoSuchCid (other_report Ok NoSuchCid refl)

pub cid_errs : CidErrs OnStores
unfolding meaning close read write seek fstat number_of
cid_errs =
    record {
      of_close = λ c s. on_channel_lem s c _ (done_cid _ _ _);
      of_read = λ c count s. on_channel_lem s c _ (done_cid _ _ _);
      of_write = λ c bytes s. on_channel_lem s c _
          (never_unless NoSuchCid _ IsDirectory _ (other_report IsDirectory NoSuchCid refl)
          (never_fits NoSuchCid s _ _ _ (other_report TooBig NoSuchCid refl) (other_report NoRoom NoSuchCid refl) (done_cid _ _ _)));
      of_seek = λ c mode n s. on_channel_lem s c _ (never_unless NoSuchCid _ BadSeek _ (other_report BadSeek NoSuchCid refl) (done_cid _ _ _));
      of_fstat = λ c s. on_channel_lem s c _ (done_cid _ _ _);
    }
