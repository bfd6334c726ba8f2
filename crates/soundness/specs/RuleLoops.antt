-- A loop over a rule's records: it goes on while a flag, the rule at i, is true, and ends in false where it is not.
-- Files are counted from 1, their records from 0.
use Rattle.std.specs.Prelude.{ℕ, zero, suc, ◌+◌, ◌≤◌, ◌<◌, ◌≡◌, Bool, true, false, not, List, [], ◌∷◌, ◌++◌, get_or}
use Rattle.std.proofs.Common.{sym, ◌∙◌, add-one, arith}
use Rattle.std.proofs.Math.Bool.{and-true}
use Rattle.std.proofs.lemmas.Bool.{not-true, not-false}
use Rattle.records.specs.Rows.{every, all_of}
use Rattle.records.specs.Tests.{and_false, AllTrue}
use Rattle.records.specs.LoopLaws.{every-step, every_fail}

module _ (p : ℕ → Bool) (i : ℕ) (flag : Bool) (test : flag ≡ p i) where
  pub rule-passed : every i p ≡ true → not flag ≡ false → every (i + 1) p ≡ true
  rule-passed so_far e = every-step p i so_far (sym test ∙ not-false flag e)

  pub rule_failed : (n : ℕ) → i < n → not flag ≡ true → false ≡ every n p
  rule_failed n h e = sym (every_fail p i n h (sym test ∙ not-true flag e))

-- a rule of files, at the file of record r
module _ (p : ℕ → Bool) (r : ℕ) (flag : Bool) (test : flag ≡ p (r + 1)) where
  pub file-passed : every r (λ i. p (suc i)) ≡ true → not flag ≡ false → every (r + 1) (λ i. p (suc i)) ≡ true
  file-passed = rule-passed (λ i. p (suc i)) r flag (rw add-one at test)

  pub file_failed : (n : ℕ) → r < n → not flag ≡ true → false ≡ every n (λ i. p (suc i))
  file_failed = rule_failed (λ i. p (suc i)) r flag (rw add-one at test)

pub rules-passed : (p : ℕ → Bool) (n i : ℕ) → i ≤ n → n ≤ i → every i p ≡ true → true ≡ every n p
rules-passed p n i l h so_far = let e : i ≡ n = omega arith in sym (rw e at so_far)

-- a row of rules fails where one of them does
pub all_of_fails : (rules : List Bool) (k : ℕ) → get_or rules k true ≡ false → all_of rules ≡ false
unfolding all_of
all_of_fails [] k e = e
all_of_fails (rule ∷ rules) zero e = rw e
all_of_fails (rule ∷ rules) (suc k) e = rw (all_of_fails rules k e) (and_false rule)

-- where all before it hold, the last rule decides
pub all_of-last : (rules : List Bool) (last : Bool) → AllTrue rules → all_of (rules ++ last ∷ []) ≡ last
unfolding all_of
all_of-last [] last h = and-true last
all_of-last (rule ∷ rules) last h = rw h.0 (all_of-last rules last h.1)
