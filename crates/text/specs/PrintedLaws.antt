-- What is printed of a refusal, whatever bytes the lent buffer has.
use Rattle.std.specs.Prelude.{ℕ, zero, suc, ◌≡◌, refl, List, [], ◌∷◌, Bool, true, false, replicate, eqb}
use Rattle.records.specs.Rows.{pick}
use Rattle.meaning.specs.Run.{refusal, number_of}
use Rattle.meaning.specs.declared.Report.{Report}
use Rattle.text.specs.Print.{decimal, printed}

-- its report alone
pub printed-refusal : (n : ℕ) (why : Report) (bytes : List ℕ) → printed (refusal n why) bytes ≡ decimal (number_of why)
unfolding printed refusal
printed-refusal n why bytes = go n (eqb (number_of why) 0) refl
  where
    go : (n : ℕ) (t : Bool) → eqb (number_of why) 0 ≡ t → printed (number_of why ∷ pick t [] (replicate {A = ℕ} n 0)) bytes ≡ decimal (number_of why)
    go n true e = refl
    go zero false e = refl
    go (suc n) false e = rw e
