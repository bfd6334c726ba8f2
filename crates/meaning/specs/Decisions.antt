-- What a call decides before it changes anything: a refusal, or a plan; said once for all calls.
use Rattle.std.specs.Prelude.{◌≡◌, Result as Answers, Ok, Err}
use Rattle.std.proofs.Math.Path.{ap}
use Rattle.std.proofs.Common.{sym, ◌∙◌, subst}
use Rattle.meaning.specs.Result.{Result, refused}
use Rattle.meaning.specs.declared.Report.{Report}

-- the result that a decision stands for, by the result of a plan
abbrev pub planned_or_refused : {P : Type 0} → (P → Result) → Answers P Report → Result
planned_or_refused planned (Ok plan) = planned plan
planned_or_refused planned (Err why) = refused why

-- what is true of a plan, where there is one
abbrev pub OfPlan : {P : Type 0} → (P → Type 0) → Answers P Report → Type 0
OfPlan Fit (Ok plan) = Fit plan
OfPlan Fit (Err why) = Unit {0}

-- the decision is the given result, and its plan fits
pub record Decides {P : Type 0} (planned : P → Result) (Fit : P → Type 0) (given : Result) (d : Answers P Report) : Type 0 where
  pub means : planned_or_refused planned d ≡ given
  pub fits : OfPlan Fit d

module _ {P : Type 0} (planned : P → Result) (Fit : P → Type 0) (given : Result) where
  -- as it is made
  pub refusing : (why : Report) → refused why ≡ given → Decides planned Fit given (Err why)
  refusing why e = record { means = e; fits = tt }

  pub planning : (plan : P) → planned plan ≡ given → Fit plan → Decides planned Fit given (Ok plan)
  planning plan e h = record { means = e; fits = h }

  -- as it is read
  module _ (d : Answers P Report) (decided : Decides planned Fit given d) where
    pub refusal_given : (why : Report) → d ≡ Err why → refused why ≡ given
    refusal_given why e = ap (planned_or_refused planned) (sym e) ∙ decided.means

    pub plan_given : (plan : P) → d ≡ Ok plan → planned plan ≡ given
    plan_given plan e = ap (planned_or_refused planned) (sym e) ∙ decided.means

    pub plan_fits : (plan : P) → d ≡ Ok plan → Fit plan
    plan_fits plan e = subst (OfPlan Fit) e decided.fits
