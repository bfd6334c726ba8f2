-- Refusals told in four numbers.
use Rattle.std.specs.Prelude.{ℕ, zero, suc, ◌≤◌, ◌-◌, ◌≡◌, ◌≢◌, refl, [], ◌∷◌, ◌++◌, Bool, true, false, eqb, length, replicate, Result as Answers, Ok, Err}
use Rattle.std.proofs.Common.{arith, ap, sym, ◌∙◌, ⊎_elim, true≢false, ne_eqb}
use Rattle.records.specs.Tests.{same_or_not}
use Rattle.records.specs.Rows.{pick}
use Rattle.meaning.specs.Run.{refusal, number_of}
use Rattle.meaning.specs.Answers.{answered, reported}
use Rattle.meaning.specs.declared.Report.{Report}
use Rattle.filestore.specs.declared.Told.{Told}
use Rattle.filestore.specs.Tells.{four, in_four, alone}

-- a refusal of any call has zeros after its report
pub refusal-alone : (n : ℕ) (why : Report) → n ≤ 3 → in_four (refusal n why) ≡ alone why
unfolding in_four refusal
refusal-alone n why = go n (eqb (number_of why) 0)
  where
    go : (n : ℕ) (t : Bool) → n ≤ 3
        → (number_of why ∷ pick t [] (replicate {A = ℕ} n 0)) ++ replicate (4 - length (number_of why ∷ pick t [] (replicate {A = ℕ} n 0))) 0 ≡ alone why
    go n true h = refl
    go zero false h = refl
    go (suc zero) false h = refl
    go (suc (suc zero)) false h = refl
    go (suc (suc (suc zero))) false h = refl
    go (suc (suc (suc (suc n)))) false h = absurd (omega arith)

zero_of : (n : ℕ) → eqb n 0 ≡ true → n ≡ 0
zero_of n e =
    ⊎_elim
    (λ (z : n ≡ 0). z)
    (λ (d : n ≢ 0). let z : true ≡ false = sym e ∙ ne_eqb n 0 d in absurd (true≢false z))
    (same_or_not n 0)

report_alone : (why : Report) (t : Bool) → eqb (number_of why) 0 ≡ t → in_four (pick t [] (refusal 0 why)) ≡ alone why
unfolding in_four
report_alone why true e = ap (λ n. n ∷ 0 ∷ 0 ∷ 0 ∷ []) (sym (zero_of (number_of why) e))
report_alone why false e = refusal-alone 0 why (omega arith)

-- a call that answers its report alone
pub told_alone : (answer : Answers (Unit {0}) Report) (r : Told) → four r ≡ in_four (answered 0 (λ _. []) answer) → four r ≡ in_four (reported answer)
told_alone (Ok done) r e = e
told_alone (Err why) r e = e ∙ refusal-alone 0 why (omega arith) ∙ sym (report_alone why (eqb (number_of why) 0) refl)
