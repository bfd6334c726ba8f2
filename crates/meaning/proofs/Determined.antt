-- A promise determines its outcome: any two outcomes that it allows are identical, for every call on any tables
-- (01, "How much a promise says").
use Rattle.std.specs.Prelude.{ℕ, ◌≡◌, List, [], ◌∷◌, get_or}
use Rattle.std.proofs.Math.Path.{refl}
use Rattle.std.proofs.Common.{ap, sym, ◌∙◌}
use Rattle.meaning.specs.Tables.{Tables}
use Rattle.meaning.specs.Run.{Call, Outcome, Promise, run, number_of}
use Rattle.meaning.specs.declared.Report.{Report}
use Rattle.meaning.specs.declared.Report.TheVariants.{Ok, NotAStore, BadName, NoSuchCid, NoSuchName, NoFreeCids, IsDirectory, NotDirectory, NoFreeFids, NoRoom, TooBig, BadSeek, NameInUse, NotEmpty, OutShort, InUse}

module _ (call : Call) (t : Tables) (buffer : List ℕ) where
  -- answer, lent buffer, every byte of every table
  pub same_outcome : (o o' : Outcome) → Promise call t buffer o → Promise call t buffer o' → o ≡ o'
  same_outcome o o' p q =
      λ i. record {
        answer = (p.answers ∙ sym q.answers) i;
        buffer = (p.fills ∙ sym q.fills) i;
        tables = (p.leaves ∙ sym q.leaves) i;
      }

  -- there is such an outcome: what `run` gives
  pub run_keeps : Promise call t buffer (run call t buffer)
  unfolding run
  run_keeps = record { answers = refl; fills = refl; leaves = refl }

  pub run-outcome : (o : Outcome) → Promise call t buffer o → o ≡ run call t buffer
  run-outcome o p = same_outcome o (run call t buffer) p run_keeps

-- a report is known by its number
reports : List Report
reports =
    Ok ∷ NotAStore ∷ BadName ∷ NoSuchCid ∷ NoSuchName ∷ NoFreeCids ∷ IsDirectory ∷ NotDirectory ∷ NoFreeFids ∷ NoRoom ∷ TooBig ∷ BadSeek ∷ NameInUse ∷ NotEmpty ∷ OutShort ∷ InUse ∷ []

numbered : (r : Report) → get_or reports (number_of r) Ok ≡ r
unfolding reports number_of
numbered Ok = refl
numbered NotAStore = refl
numbered BadName = refl
numbered NoSuchCid = refl
numbered NoSuchName = refl
numbered NoFreeCids = refl
numbered IsDirectory = refl
numbered NotDirectory = refl
numbered NoFreeFids = refl
numbered NoRoom = refl
numbered TooBig = refl
numbered BadSeek = refl
numbered NameInUse = refl
numbered NotEmpty = refl
numbered OutShort = refl
numbered InUse = refl

pub same_report : (r r' : Report) → number_of r ≡ number_of r' → r ≡ r'
same_report r r' e = sym (numbered r) ∙ ap (λ n. get_or reports n Ok) e ∙ numbered r'
