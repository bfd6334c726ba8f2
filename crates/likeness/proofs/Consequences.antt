-- What follows: nothing but the store is ever seen, a gap reads as zeros, and no constant program keeps the promise.
use Rattle.std.specs.Prelude.{ℕ, ◌≤◌, ◌<◌, ◌≡◌, refl, ◌≢◌, Bool, length, get_or, ltb, Ok, Err}
use Rattle.std.proofs.Common.{ap, sym, ◌∙◌, true≢false, arith, eq-eqb}
use mathlib.Core.List.{List, [], ◌∷◌}
use Rattle.std.proofs.Math.Bool.{true, false}
use Rattle.records.specs.Rows.{pick}
use Rattle.records.specs.Tests.{and_false}
use Rattle.meaning.specs.File.{writeFILE}
use Rattle.meaning.proofs.FileLaws.{byte_before, byte_past}
use Rattle.meaning.specs.Store.{Store, file, channel, no_channel, no_file, after, after_all, is_open, is_orphan, let_go}
use Rattle.meaning.specs.Result.{Result, refused, unless, on_channel, if_fits}
use Rattle.meaning.specs.ChannelCalls.{close, write}
use Rattle.meaning.specs.Tables.{Tables, store_of}
use Rattle.meaning.specs.Sound.{sound}
use Rattle.meaning.specs.Run.{Call, Prepare, Open, Close, Write, meaning, result_of, answer_of, changes_of, Answer, accepted, number_of, refusal, run}
use Rattle.meaning.specs.Answers.{reported}
use Rattle.meaning.proofs.AnswerLaws.{never_accepted}
use Rattle.meaning.proofs.Refusals.{refusal-alone}
use Rattle.meaning.specs.Running.{step, zeroed, wrong}
use Rattle.meaning.specs.Text.{text}
use Rattle.meaning.specs.declared.Report.{Report}
use Rattle.meaning.specs.declared.Report.TheVariants.{NoSuchCid}
use Rattle.keeping.proofs.Proofs.{sound_kept}
use Rattle.likeness.specs.Alike.{Listed, Alike, AlikeStores, same, listed_after, left}
use Rattle.likeness.proofs.Leaving.{unless_either}
use Rattle.likeness.proofs.Likeness.{heard, run_store, alike_call}

-- ---- nothing but the store is seen

-- a call with the buffer that it is lent
pub record Asked : Type 0 where
  pub call : Call
  pub buffer : List ℕ

-- the answers to a row of calls, each with the buffer afterwards
unfoldable pub told : Tables → List Asked → List (Answer × List ℕ)
told t [] = []
told t (x ∷ xs) =
    let o = run x.call t x.buffer in
    (o.answer, o.buffer) ∷ told o.tables xs

-- nothing is listed, and so it stays
abbrev Nothing : Listed → Type 0
Nothing listed = (f : ℕ) → listed f ≡ false

nothing-after : (listed : Listed) (call : Call) (s : Store) → Nothing listed → Nothing (listed_after listed call s)
unfolding listed_after
nothing-after listed call s none f = rw (none f)

equal_stores : (listed : Listed) → Nothing listed → (s s' : Store) → s ≡ s' → AlikeStores listed s s'
equal_stores listed none s s' e =
    record {
      blocks = ap (λ (u : Store). u.block_count) e;
      files = ap (λ (u : Store). u.file_count) e;
      channels = ap (λ (u : Store). u.channel_count) e;
      ordinary = λ f h. absurd (true≢false (sym h ∙ none f));
      kinds = λ f some last. ap (λ (u : Store). (u.file f).kind) e;
      lengths = λ f some last. ap (λ (u : Store). length (u.file f).bytes) e;
      bytes = λ f some last h. ap (λ (u : Store). (u.file f).bytes) e;
      held = λ c h. ap (λ (u : Store). (u.channel c).file) e;
      positions = λ c h. ap (λ (u : Store). (u.channel c).posn) e;
    }

-- ---- a gap

-- the bytes between the old end and the data
pub gap_zero : (old bytes : List ℕ) (offset k : ℕ) → length old ≤ k → k < offset → get_or (writeFILE old offset bytes) k 0 ≡ 0
gap_zero old bytes offset k past before = byte_before old offset bytes k before ∙ byte_past old k past

module _ (s : Store) (c : ℕ) (bytes : List ℕ) where
  abbrev f : ℕ
  f = (s.channel c).file

  abbrev new : List ℕ
  new = writeFILE (s.file f).bytes (s.channel c).posn bytes

  -- an accepted call leaves the file as written
  abbrev Writes : Result → Type 0
  Writes r = (n : ℕ) → answer_of 1 r ≡ accepted (n ∷ []) → ((after_all s (changes_of r)).file f).bytes ≡ new

  refuses : (why : Report) → Writes (refused why)
  unfolding answer_of
  refuses why n e = absurd (never_accepted 1 n [] why (sym e))

  unless_writes : (t : Bool) (why : Report) (r : Result) → Writes r → Writes (unless t why r)
  unless_writes t why r h = unless_either Writes t why r (refuses why) h

  write_writes : Writes (write c bytes s)
  unfolding write on_channel if_fits changes_of after_all after
  write_writes =
      unless_writes _ _ _ (unless_writes _ _ _ (unless_writes _ _ _ (unless_writes _ _ _ (λ n e. rw (eq-eqb f f refl)))))

-- ---- closing a channel

module _ (s : Store) (c : ℕ) where
  open-close : is_open s c ≡ true → answer_of 0 (close c s) ≡ reported (Ok tt)
  unfolding close on_channel unless answer_of
  open-close is = rw is

  closed-close : is_open s c ≡ false → answer_of 0 (close c s) ≡ reported (Err NoSuchCid)
  unfolding close on_channel unless answer_of number_of
  closed-close isnt = rw isnt (refusal-alone NoSuchCid refl)

  freed : is_open s c ≡ true → ((left (Close c) s).channel c).file ≡ 0
  unfolding meaning close on_channel unless changes_of after_all after let_go
  freed is = rw is (go (is_orphan (after s (channel c no_channel)) (s.channel c).file))
    where
      go : (t : Bool) → ((after_all (after s (channel c no_channel)) (pick t (file (s.channel c).file no_file ∷ []) [])).channel c).file ≡ 0
      go true = rw (eq-eqb c c refl)
      go false = rw (eq-eqb c c refl)

  not_open : (s.channel c).file ≡ 0 → is_open s c ≡ false
  unfolding is_open
  not_open e = rw e (and_false (ltb c s.channel_count))

-- ---- of tables

told-alike : (listed : Listed) → Nothing listed → (t t' : Tables) (row : List Asked) → Alike listed t t' → told t row ≡ told t' row
unfolding told
told-alike listed none t t' [] a = refl
told-alike listed none t t' (x ∷ xs) a =
    let o = alike_call listed t t' a x.call x.call x.buffer (same x.call) in
    let more = told-alike (listed_after listed x.call (store_of t)) (nothing-after listed x.call (store_of t) none) _ _ xs o.stay in
    λ i. (o.answers i, o.buffers (λ c count e. none ((store_of t).channel c).file) i) ∷ more i

-- tables that hold the same store are told the same, whatever free blocks and room past the ends of files hold,
-- and wherever blocks lie
pub only_the_store : (t t' : Tables) (row : List Asked) → sound t ≡ true → sound t' ≡ true → store_of t ≡ store_of t' → told t row ≡ told t' row
only_the_store t t' row e e' s =
    told-alike (λ f. false) (λ f. refl) t t' row
    (record { sound_here = e; sound_there = e'; stores = equal_stores (λ f. false) (λ f. refl) (store_of t) (store_of t') s })

-- what a gap reads as: zeros, whatever any block held before
pub gap_reads_zero : (t : Tables) (c : ℕ) (bytes buffer : List ℕ) (n k : ℕ) → sound t ≡ true → answer_of 1 (result_of (Write c bytes) t) ≡ accepted (n ∷ [])
    → length ((store_of t).file ((store_of t).channel c).file).bytes ≤ k → k < ((store_of t).channel c).posn
    → get_or ((store_of (run (Write c bytes) t buffer).tables).file ((store_of t).channel c).file).bytes k 0 ≡ 0
unfolding meaning
gap_reads_zero t c bytes buffer n k e told-so past before =
    rw (run_store (Write c bytes) t buffer e, write_writes (store_of t) c bytes n (rw (heard (Write c bytes) t e) at told-so))
    (gap_zero ((store_of t).file ((store_of t).channel c).file).bytes bytes ((store_of t).channel c).posn k past before)

-- the same call again has another answer: no constant keeps the promise
pub close_twice : (t : Tables) (c : ℕ) (buffer : List ℕ) → sound t ≡ true → is_open (store_of t) c ≡ true
    → (answer_of 0 (result_of (Close c) t) ≡ reported (Ok tt)) × (answer_of 0 (result_of (Close c) (run (Close c) t buffer).tables) ≡ reported (Err NoSuchCid))
unfolding meaning
close_twice t c buffer e is =
    let u = (run (Close c) t buffer).tables in
    let none : ((store_of u).channel c).file ≡ 0 = rw (run_store (Close c) t buffer e) (freed (store_of t) c is) in (
      ap (answer_of 0) (heard (Close c) t e) ∙ open-close (store_of t) c is,
      ap (answer_of 0) (heard (Close c) u (sound_kept (Close c) t buffer e)) ∙ closed-close (store_of u) c (not_open (store_of u) c none),
    )

-- and so does no program that leaves the tables as they are
pub tables-change : (t : Tables) (c : ℕ) (buffer : List ℕ) → sound t ≡ true → is_open (store_of t) c ≡ true → (run (Close c) t buffer).tables ≢ t
unfolding number_of refusal
tables-change t c buffer e is unchanged =
    let (first, again) = close_twice t c buffer e is in
    let z : ◌≡◌ {A = ℕ} 0 3 = cc (ap (λ (u : Tables). answer_of 0 (result_of (Close c) u)) unchanged) in omega arith

-- there is such a store
a_channel_closed_twice : wrong (zeroed 1 1 1) (
    step Prepare (0 ∷ [])
    ∷ step (Open (text "/")) (0 ∷ 0 ∷ [])
    ∷ step (Close 0) (0 ∷ [])
    ∷ step (Close 0) (3 ∷ [])
    ∷ [])
    ≡ []
unfolding wrong
a_channel_closed_twice = refl
