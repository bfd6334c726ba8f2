-- The source's errors, and read and open with theirs, of outcomes that keep the promise.
use Rattle.std.specs.Prelude.{ℕ, ◌≡◌, ◌≢◌, ◌↔◌, get_or, replicate}
use Rattle.std.proofs.Math.Path.{refl, ap}
use Rattle.std.proofs.Common.{sym, ◌∙◌, inl, inr, ⊎_elim}
use Rattle.std.proofs.Math.Logic.Iff
use mathlib.Core.List.{List, [], ◌∷◌}
use Rattle.std.proofs.Math.Option.{some-injective}
use Rattle.meaning.specs.Store.{Store}
use Rattle.meaning.specs.Result.{Result, refused, done}
use Rattle.meaning.specs.Tables.{Tables, store_of}
use Rattle.meaning.specs.Run.{Call, Read, Open, Unlink, Create, Link, Move, Ls, Close, Fstat, Write, Seek, meaning, number_of, width, answer_of, Outcome}
use Rattle.meaning.proofs.Determined.{same_report}
use Rattle.meaning.proofs.Refusals.{refused_row}
use Rattle.meaning.specs.declared.Report.{Report}
use Rattle.meaning.specs.declared.Report.TheVariants.{Ok, NoSuchCid, NoSuchName, NoFreeCids, IsDirectory}
use Rattle.source.specs.Accepted.{Ready}
use Rattle.source.specs.Invariants.{sound_ready}
use Rattle.source.specs.ErrorStatements.{report_of}
use Rattle.source.specs.Reports.{other_report}
use Rattle.source.proofs.WholeCalls.{read_is, open_is}
use Rattle.source.specs.ErrorProofs.{cid_errs}
use Rattle.source.specs.NameErrors.{name_errs, chan_errs}
use Rattle.source.specs.DirectoryErrors.{directory_errs}
use Rattle.source.specs.OutcomeStatements.{state_of, Schema, shown, Kept, OnOutcomes, OutcomeErrs, ReadOutcome, OpenOutcome}
use Rattle.source.proofs.Outcomes.{result_is, outcome-holds, refused_unaltered}

-- an outcome's report is the source's report!
module _ (call : Call) (t : Tables) (buffer : List ℕ) (o : Outcome) (kept : Kept call t buffer o) where
  -- the answer begins with its number
  pub answer_head : (numbers : List ℕ) × (o.answer ≡ number_of (report_of (meaning call (store_of t))) ∷ numbers)
  unfolding answer_of report_of
  answer_head = go (meaning call (store_of t)) refl
    where
      go : (r : Result) → meaning call (store_of t) ≡ r → (numbers : List ℕ) × (o.answer ≡ number_of (report_of r) ∷ numbers)
      go (refused why) is = (replicate (width call) 0, kept.1.answers ∙ (refused_row call t why (result_is call t buffer o kept ∙ is)).1)
      go (done ns bytes changes) is = (ns, kept.1.answers ∙ ap (answer_of (width call)) (result_is call t buffer o kept ∙ is))

  pub head_report : (why : Report) → ((numbers : List ℕ) × (o.answer ≡ number_of why ∷ numbers)) ↔ (report_of (meaning call (store_of t)) ≡ why)
  head_report why = (
    λ (numbers, e).
        let own : number_of (report_of (meaning call (store_of t))) ∷ answer_head.0 ≡ number_of why ∷ numbers = sym answer_head.1 ∙ e in
        let same : number_of (report_of (meaning call (store_of t))) ≡ number_of why = cc in
        same_report (report_of (meaning call (store_of t))) why same,
    λ e. (answer_head.0, rw e at answer_head.1),
  )

-- so what is told of stores is told of outcomes
told : (call : Call) (why : Report) (cause : Store → Type 0) → ((s : Store) → Ready s → (report_of (meaning call s) ≡ why) ↔ cause s) → OnOutcomes call why cause
told call why cause h t buffer o kept = Iff.trans (head_report call t buffer o kept why) (h (store_of t) (sound_ready t kept.0))

pub outcome_errs : OutcomeErrs
outcome_errs =
    record {
      channels = record {
        of_close = λ c. told (Close c) NoSuchCid _ (λ s ready. cid_errs.of_close c s);
        of_read = λ c count. told (Read c count) NoSuchCid _ (λ s ready. cid_errs.of_read c count s);
        of_write = λ c bytes. told (Write c bytes) NoSuchCid _ (λ s ready. cid_errs.of_write c bytes s);
        of_seek = λ c mode n. told (Seek c mode n) NoSuchCid _ (λ s ready. cid_errs.of_seek c mode n s);
        of_fstat = λ c. told (Fstat c) NoSuchCid _ (λ s ready. cid_errs.of_fstat c s);
      };
      names = record {
        of_open = λ bytes name e. told (Open bytes) NoSuchName _ (λ s ready. name_errs.of_open bytes name e s);
        of_unlink = λ bytes name e. told (Unlink bytes) NoSuchName _ (λ s ready. name_errs.of_unlink bytes name e s);
        of_ls = λ bytes name e size. told (Ls bytes size) NoSuchName _ (λ s ready. name_errs.of_ls bytes name e size s);
        of_create = λ bytes name e. told (Create bytes) NoSuchName _ (λ s ready. name_errs.of_create bytes name e s);
        of_link = λ old new from to e h. told (Link old new) NoSuchName _ (name_errs.of_link old new from to e h);
        of_move = λ old new from to e h. told (Move old new) NoSuchName _ (name_errs.of_move old new from to e h);
      };
      free = record {
        of_open = λ bytes name e. told (Open bytes) NoFreeCids _ (λ s ready. chan_errs.of_open bytes name e s);
        of_create = λ bytes name e. told (Create bytes) NoFreeCids _ (λ s ready. chan_errs.of_create bytes name e s);
      };
      directories = record {
        of_write = λ c bytes. told (Write c bytes) IsDirectory _ (directory_errs.of_write c bytes);
        of_create = λ bytes name e. told (Create bytes) IsDirectory _ (λ s ready. directory_errs.of_create bytes name e s);
        of_unlink = λ bytes name e. told (Unlink bytes) IsDirectory _ (λ s ready. directory_errs.of_unlink bytes name e s);
        of_link = λ old new from to e h. told (Link old new) IsDirectory _ (directory_errs.of_link old new from to e h);
        of_move = λ old new from to e h. told (Move old new) IsDirectory _ (directory_errs.of_move old new from to e h);
      };
    }

-- ---- figures 4.1 and 4.2

module _ (call : Call) (t : Tables) (buffer : List ℕ) (o : Outcome) (kept : Kept call t buffer o) where
  -- a refusal of a call with one number: that number is 0, and the state stays
  refused_one : width call ≡ 1 → (why : Report) → why ≢ Ok → report_of (meaning call (store_of t)) ≡ why → (o.answer ≡ number_of why ∷ 0 ∷ []) × (state_of o.tables ≡ state_of t)
  refused_one one why n is =
      let (numbers, e) = (head_report call t buffer o kept why).1 is in
      let (zeros, fills, stay, state) = refused_unaltered call t buffer o kept.1 why n numbers e in
      (e ∙ ap (λ (l : List ℕ). number_of why ∷ l) (zeros ∙ ap (λ (n : ℕ). replicate n 0) one), state)

pub read-outcome : ReadOutcome
unfolding meaning Schema shown number_of
read-outcome c count t buffer o kept =
    ⊎_elim
    (λ ok.
    let (numbers, e) = (head_report call t buffer o kept Ok).1 ok.1 in
    let (reads, counts) = outcome-holds call t buffer o kept numbers e in
    let one : numbers ≡ get_or numbers 0 0 ∷ [] = counts ∙ ap (λ (l : List ℕ). get_or l 0 0 ∷ []) (sym counts) in
    (Ok, get_or numbers 0 0, e ∙ ap (λ (l : List ℕ). 0 ∷ l) one, inl (reads, refl)))
    (λ err.
    let (answer, state) = refused_one call t buffer o kept refl NoSuchCid (other_report NoSuchCid Ok refl) err.reports in
    (NoSuchCid, 0, answer, inr (record { missing = err.missing; reports = refl; unaltered = state })))
    (read_is (store_of t) (sound_ready t kept.0) c count)
  where
    call : Call
    call = Read c count

pub open-outcome : OpenOutcome
unfolding meaning Schema number_of
open-outcome bytes name spelled t buffer o kept =
    ⊎_elim
    (λ ok.
    let (numbers, e) = (head_report call t buffer o kept Ok).1 ok.1 in
    let (name', also, (cid, opens, is, below)) = outcome-holds call t buffer o kept numbers e in
    let same : name' ≡ name = some-injective name' name (sym also ∙ spelled) in
    (Ok, cid, e ∙ ap (λ (l : List ℕ). 0 ∷ l) is, inl (rw same at opens, refl)))
    (λ errs. ⊎_elim
    (λ err.
    let (answer, state) = refused_one call t buffer o kept refl NoSuchName (other_report NoSuchName Ok refl) err.reports in
    (NoSuchName, 0, answer, inr (inl (record { missing = err.missing; reports = refl; unaltered = state }))))
    (λ err.
    let (answer, state) = refused_one call t buffer o kept refl NoFreeCids (other_report NoFreeCids Ok refl) err.reports in
    (NoFreeCids, 0, answer, inr (inr (record { all = err.all; reports = refl; unaltered = state }))))
    errs)
    (open_is (store_of t) (sound_ready t kept.0) bytes name spelled)
  where
    call : Call
    call = Open bytes
