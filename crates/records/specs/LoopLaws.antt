-- Laws of the rows as a loop at i meets them: the start, the step to i + 1, the end.
use Rattle.std.specs.Prelude.{ℕ, ◌+◌, ◌-◌, ◌≤◌, ◌<◌, ◌≡◌, ◌≢◌, List, [], ◌∷◌, Bool, true, false, eqb, length, take, get_or, set}
use Rattle.std.proofs.Math.Path.{refl}
use Rattle.std.proofs.Common.{ap, sym, ◌∙◌, ⊎_elim, true≢false, length-take, take-suc, take_all, eq-eqb, ne_eqb}
use Rattle.std.proofs.Math.Numerals.{add-one}
use native.Mathlib.Omega.{arith}
use Rattle.std.proofs.lemmas.List.Edits.{sets}
use Rattle.records.specs.Rows.{lowest, lowest_from, every, how_many, sum}
use Rattle.records.specs.Tests.{tested, same_or_not}
use Rattle.records.specs.RowLaws.{search_hit, search_miss, search_end, every_all, how_many_mono, sum_constant, lowest_hit, lowest-le}
use Rattle.records.specs.RecordLaws.{sets-append}

-- ---- a search: what is left of it gives what the whole gives

module _ (p : ℕ → Bool) (n : ℕ) where
  pub search_start : lowest n p ≡ lowest_from 0 (n - 0) p
  unfolding lowest
  search_start = let e : n - 0 ≡ n = omega arith in rw e

  module _ (i : ℕ) (so_far : lowest n p ≡ lowest_from i (n - i) p) where
    pub search_found : i < n → p i ≡ true → i ≡ lowest n p
    search_found h e = sym (so_far ∙ search_hit p i n h e)

    pub search_passed : i < n → p i ≡ false → lowest n p ≡ lowest_from (i + 1) (n - (i + 1)) p
    search_passed h e = so_far ∙ search_miss p i n h e

    pub search_none : i ≤ n → n ≤ i → n ≡ lowest n p
    search_none l h = let e : n ≡ i = omega arith in e ∙ sym (so_far ∙ search_end p i n h)

-- a search that is sure to find: it tests no end, and what it looks for is not passed
module _ (p : ℕ → Bool) (n i : ℕ) (sure : lowest n p < n) (ahead : i ≤ lowest n p) (v w : ℕ) (test : p i ≡ eqb v w) where
  pub sure_found : v ≡ w → i ≡ lowest n p
  sure_found e = omega (arith, lowest-le n p i (test ∙ eq-eqb v w e))

  pub sure_ahead : (v ≡ w → ⊥) → i + 1 ≤ lowest n p
  sure_ahead d =
      ⊎_elim
      (λ (e : i ≡ lowest n p). let z : true ≡ false = sym (lowest_hit n p sure) ∙ ap p (sym e) ∙ test ∙ ne_eqb v w d in absurd (true≢false z))
      (λ (h : i ≢ lowest n p). omega arith)
      (same_or_not i (lowest n p))

-- ---- whether every index passes

module _ (p : ℕ → Bool) where
  pub every_start : every 0 p ≡ true
  unfolding every
  every_start = refl

  pub every-step : (i : ℕ) → every i p ≡ true → p i ≡ true → every (i + 1) p ≡ true
  unfolding every
  every-step i so_far e = rw (add-one, so_far, e)

  pub every_fail : (i n : ℕ) → i < n → p i ≡ false → every n p ≡ false
  every_fail i n h e =
      ⊎_elim
      (λ (t : every n p ≡ true). let z : true ≡ false = sym (every_all n p t i h) ∙ e in absurd (true≢false z))
      (λ f. f)
      (tested (every n p))

-- ---- how many pass

module _ (p : ℕ → Bool) where
  pub count_start : how_many 0 p ≡ 0
  unfolding how_many sum
  count_start = refl

  module _ (i : ℕ) where
    pub count_hit : p i ≡ true → how_many (i + 1) p ≡ how_many i p + 1
    unfolding how_many sum
    count_hit e = rw (add-one i, e)

    pub count_miss : p i ≡ false → how_many (i + 1) p ≡ how_many i p
    unfolding how_many sum
    count_miss e = rw (add-one, e) (omega arith)

  pub how_many-within : (n : ℕ) → how_many n p ≤ n
  unfolding how_many
  how_many-within n = omega (arith, how_many_mono n p (λ i. true) (λ i h e. refl), sum_constant n 1)

-- ---- a sum

module _ (g : ℕ → ℕ) where
  pub sum_start : sum 0 g ≡ 0
  unfolding sum
  sum_start = refl

  pub sum_step : (i : ℕ) → sum (i + 1) g ≡ sum i g + g i
  unfolding sum
  sum_step i = rw add-one

-- ---- a test at i that compares a number v, which the loop has read, with the one that is wanted

module _ (p : ℕ → Bool) (n i : ℕ) (so_far : lowest n p ≡ lowest_from i (n - i) p) (inside : i < n) (v w : ℕ) (test : p i ≡ eqb v w) where
  pub found_equal : v ≡ w → i ≡ lowest n p
  found_equal e = search_found p n i so_far inside (test ∙ eq-eqb v w e)

  pub passed-other : (v ≡ w → ⊥) → lowest n p ≡ lowest_from (i + 1) (n - (i + 1)) p
  passed-other d = search_passed p n i so_far inside (test ∙ ne_eqb v w d)

module _ (p : ℕ → Bool) (i count next : ℕ) (so_far : count ≡ how_many i p) (v w : ℕ) (test : p i ≡ eqb v w) where
  pub counted_equal : v ≡ w → next ≡ count + 1 → next ≡ how_many (i + 1) p
  counted_equal e m = omega (arith, count_hit p i (test ∙ eq-eqb v w e))

  pub skipped_other : (v ≡ w → ⊥) → next ≡ count → next ≡ how_many (i + 1) p
  skipped_other d m = omega (arith, count_miss p i (test ∙ ne_eqb v w d))

-- a count of the first i indices, of which there are n
pub counted_all : (p : ℕ → Bool) (n i count : ℕ) → i ≤ n → n ≤ i → count ≡ how_many i p → count ≡ how_many n p
counted_all p n i count l h so_far = let e : i ≡ n = omega arith in rw e at so_far

-- ---- stores, one behind the other

module _ {A : Type 0} where
  -- a loop that lays the bytes of vs one by one: one more, and all of them
  module _ (vs l now : List A) (at i : ℕ) (laid : now ≡ sets l at (take i vs)) where
    pub laid_next : (b d : A) → i < length vs → b ≡ get_or vs i d → set now (at + i) b ≡ sets l at (take (i + 1) vs)
    laid_next b d h e =
        let k : at + i ≡ at + length (take i vs) = rw length-take (omega arith) in
        rw (laid, e, add-one i, take-suc vs i d h) (sets-append (take i vs) (get_or vs i d ∷ []) l at (at + i) k)

    pub laid_all : length vs ≤ i → now ≡ sets l at vs
    laid_all h = laid ∙ ap (λ v. sets l at v) (take_all i vs h)
