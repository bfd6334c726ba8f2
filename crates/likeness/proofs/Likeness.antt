-- Demand 3: alike stores give the same answers to any row of the same calls, save bytes read from listed files, and stay alike.
use Rattle.std.specs.Prelude.{ℕ, ◌+◌, ◌≡◌, refl, List, [], ◌∷◌, Bool, true, false, not, length, drop}
use Rattle.std.proofs.Math.Path.{ap}
use Rattle.std.proofs.Common.{sym, ◌∙◌, drop_at}
use Rattle.meaning.specs.File.{over, readFILE}
use Rattle.meaning.proofs.FileLaws.{length_over}
use Rattle.meaning.specs.Store.{Store, channel, channel_to, is_open}
use Rattle.meaning.specs.Tables.{Tables, store_of}
use Rattle.meaning.specs.Result.{Result, done, unless, on_channel}
use Rattle.meaning.specs.ChannelCalls.{read}
use Rattle.meaning.specs.Sound.{sound}
use Rattle.meaning.specs.Run.{Call, Read, meaning, result_of, answer_of, bytes_of, width, accepted, Outcome, run, Promise}
use Rattle.meaning.proofs.AnswerLaws.{never_accepted}
use Rattle.meaning.proofs.Determined.{run-outcome}
use Rattle.meaning.specs.declared.Report.TheVariants.{NoSuchCid}
use Rattle.keeping.proofs.Proofs.{sound-accepted, store_after, sound_kept}
use Rattle.likeness.specs.Alike.{Listed, Alike, SameCall, same, other-bytes, listed_after, left, AlikeOutcomes, Demanded}
use Rattle.likeness.proofs.Results.{Given, same_result}
use Rattle.likeness.proofs.Stores.{same_stores, alike-left}

-- on a sound store every call is heard
pub heard : (call : Call) (t : Tables) → sound t ≡ true → result_of call t ≡ meaning call (store_of t)
unfolding result_of unless
heard call t e = rw (sound-accepted call t e)

-- ---- lent buffers

module _ (buffer out out' : List ℕ) (size : length out ≡ length out') where
  same_length : length (over buffer out) ≡ length (over buffer out')
  same_length = length_over buffer out ∙ rw size (sym (length_over buffer out'))

  same_rest : (n : ℕ) → length out ≡ n → drop n (over buffer out) ≡ drop n (over buffer out')
  same_rest n e =
      drop_at out (drop (length out) buffer) n e
      ∙ ap (λ k. drop k buffer) size
      ∙ sym (drop_at out' (drop (length out') buffer) n (sym size ∙ e))

-- a call that reads answers how many bytes
read_count : (c count n : ℕ) (s : Store) → answer_of 1 (read c count s) ≡ accepted (n ∷ []) → length (bytes_of (read c count s)) ≡ n
unfolding read on_channel unless answer_of bytes_of
read_count c count n s = go (not (is_open s c))
  where
    out : List ℕ
    out = readFILE (s.file (s.channel c).file).bytes (s.channel c).posn count

    r : Result
    r = done (length out ∷ []) out (channel c (channel_to (s.channel c).file ((s.channel c).posn + length out)) ∷ [])

    go : (t : Bool) → answer_of 1 (unless t NoSuchCid r) ≡ accepted (n ∷ []) → length (bytes_of (unless t NoSuchCid r)) ≡ n
    go true e = absurd (never_accepted 1 n [] NoSuchCid (sym e))
    go false e = cc

-- calls that are the same answer as many numbers
same_width : (listed : Listed) (s : Store) {call call' : Call} → SameCall listed s call call' → width call ≡ width call'
same_width listed s (same call) = refl
same_width listed s (other-bytes c bytes bytes' l e) = refl

counted : (call : Call) (s : Store) (c count n : ℕ) → call ≡ Read c count → answer_of (width call) (meaning call s) ≡ accepted (n ∷ []) → length (bytes_of (meaning call s)) ≡ n
unfolding meaning
counted call s c count n e h = rw e (read_count c count n s (rw e at h))

-- ---- of tables

pub run_store : (call : Call) (t : Tables) (buffer : List ℕ) → sound t ≡ true → store_of (run call t buffer).tables ≡ left call (store_of t)
run_store call t buffer e = store_after call t buffer (sound-accepted call t e)

module _ (listed : Listed) (t t' : Tables) (a : Alike listed t t') where
  module _ (call call' : Call) (buffer : List ℕ) (c : SameCall listed (store_of t) call call') where
    given : Given listed (store_of t) (store_of t') call call'
    given = same_result listed (store_of t) (store_of t') (same_stores listed t t' a) c

    tables-alike : Alike (listed_after listed call (store_of t)) (run call t buffer).tables (run call' t' buffer).tables
    tables-alike =
        record {
          sound_here = sound_kept call t buffer a.sound_here;
          sound_there = sound_kept call' t' buffer a.sound_there;
          stores = rw (run_store call t buffer a.sound_here, run_store call' t' buffer a.sound_there)
              (alike-left listed (store_of t) (store_of t') call call' given);
        }

    pub alike_call : AlikeOutcomes listed (store_of t) call (run call t buffer) (run call' t' buffer)
    unfolding run
    alike_call =
        let out = bytes_of (meaning call (store_of t)) in
        let out' = bytes_of (meaning call' (store_of t')) in
        rw (heard call t a.sound_here, heard call' t' a.sound_there)
        (record {
          answers = rw (same_width listed (store_of t) c) (given.answers (width call'));
          buffers = λ h. ap (over buffer) (given.bytes h);
          sizes = same_length buffer out out' given.sizes;
          rests = λ d count n e h. same_rest buffer out out' given.sizes n (counted call (store_of t) d count n e h);
          stay = rw (heard call t a.sound_here, heard call' t' a.sound_there) at tables-alike;
        })

    -- and so are any two outcomes that keep the promise
    pub promised_alike : (o o' : Outcome) → Promise call t buffer o → Promise call' t' buffer o' → AlikeOutcomes listed (store_of t) call o o'
    promised_alike o o' p p' = rw (run-outcome call t buffer o p, run-outcome call' t' buffer o' p') alike_call

-- the demand, for any row of calls
pub alike-row : Demanded
alike-row listed t t' [] a c = a
alike-row listed t t' (x ∷ xs) a c =
    let o = alike_call listed t t' a x.call x.other x.buffer c.0 in
    (o, alike-row (listed_after listed x.call (store_of t)) _ _ xs o.stay c.1)
