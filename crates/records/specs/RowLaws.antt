-- Laws of the rows of Rows.antt, stated of every test, rule and length.
use Prim.Native.Nat.{ℕ, zero, suc, ◌+◌, ◌-◌, ◌*◌, ◌≤◌, ◌<◌}
use Rattle.std.specs.Prelude.{◌≡◌, refl, ◌≢◌, Bool, true, false, ◌&&◌, ltb, eqb}
use Rattle.std.proofs.Common.{ap, sym, ◌∙◌, ⊎_elim, true≢false, add-one, eq-eqb, ne_eqb, lt-ltb, le-ltb}
use native.Mathlib.Omega.{arith}
use Rattle.records.specs.Rows.{pick, tally, lowest, lowest_from, every, how_many, sum}
use Rattle.records.specs.Tests.{and_left, and_right, same_or_not, le_or_gt, lt_or_ge}

-- ---- a search, as a loop at i meets it

module _ (p : ℕ → Bool) (i n : ℕ) where
  pub search_hit : i < n → p i ≡ true → lowest_from i (n - i) p ≡ i
  unfolding lowest_from
  search_hit h e =
      let m : n - i ≡ suc (n - i - 1) = omega arith in
      rw (m, e)

  pub search_miss : i < n → p i ≡ false → lowest_from i (n - i) p ≡ lowest_from (i + 1) (n - (i + 1)) p
  unfolding lowest_from
  search_miss h e =
      let m : n - i ≡ suc (n - (i + 1)) = omega arith in
      rw (m, e, add-one)

  pub search_end : n ≤ i → lowest_from i (n - i) p ≡ i
  unfolding lowest_from
  search_end h =
      let m : n - i ≡ 0 = omega arith in
      rw m

-- ---- the lowest that passes

-- r is the lowest from i on that passes among n, or i + n
pub record Found (i n : ℕ) (p : ℕ → Bool) (r : ℕ) : Type 0 where
  pub low : i ≤ r
  pub high : r ≤ i + n
  pub misses : (k : ℕ) → i ≤ k → k < r → p k ≡ false
  pub hit : r < i + n → p r ≡ true

pub from_found : (i n : ℕ) (p : ℕ → Bool) → Found i n p (lowest_from i n p)
unfolding lowest_from
from_found i zero p =
    record { low = omega arith; high = omega arith; misses = λ k h l. absurd (omega arith); hit = λ h. absurd (omega arith) }
from_found i (suc n) p = go (p i) refl (from_found (suc i) n p)
  where
    go : (t : Bool) → p i ≡ t → Found (suc i) n p (lowest_from (suc i) n p) → Found i (suc n) p (pick t i (lowest_from (suc i) n p))
    go true e r =
        record { low = omega arith; high = omega arith; misses = λ k h l. absurd (omega arith); hit = λ h. e }
    go false e r =
        record {
          low = omega arith;
          high = omega arith;
          misses = λ k h l. ⊎_elim (λ (s : k ≡ i). rw s e) (λ d. r.misses k (omega arith) l) (same_or_not k i);
          hit = λ h. r.hit (omega arith);
        }

module _ (n : ℕ) (p : ℕ → Bool) where
  found : Found 0 n p (lowest n p)
  unfolding lowest
  found = from_found 0 n p

  pub lowest-within : lowest n p ≤ n
  lowest-within = omega (arith, found.high)

  -- what is found passes
  pub lowest_hit : lowest n p < n → p (lowest n p) ≡ true
  lowest_hit h = found.hit (omega arith)

  -- all below it fail
  pub lowest_misses : (k : ℕ) → k < lowest n p → p k ≡ false
  lowest_misses k h = found.misses k (omega arith) h

  -- it is at most any index that passes
  pub lowest-le : (k : ℕ) → p k ≡ true → lowest n p ≤ k
  lowest-le k e =
      ⊎_elim (λ l. l)
      (λ g. let z : true ≡ false = sym e ∙ lowest_misses k g in absurd (true≢false z))
      (le_or_gt (lowest n p) k)

-- two tests that agree below n have the same lowest
from_cong : (i n : ℕ) (p q : ℕ → Bool) → ((k : ℕ) → i ≤ k → k < i + n → p k ≡ q k) → lowest_from i n p ≡ lowest_from i n q
unfolding lowest_from
from_cong i zero p q e = refl
from_cong i (suc n) p q e =
    rw (e i (omega arith) (omega arith), from_cong (suc i) n p q (λ k l h. e k (omega arith) (omega arith)))

pub lowest_cong : (n : ℕ) (p q : ℕ → Bool) → ((k : ℕ) → k < n → p k ≡ q k) → lowest n p ≡ lowest n q
unfolding lowest
lowest_cong n p q e = from_cong 0 n p q (λ k l h. e k (omega arith))

-- k is the lowest if all below it fail, and it passes or is the end
pub lowest_is : (n : ℕ) (p : ℕ → Bool) (k : ℕ) → k ≤ n → ((i : ℕ) → i < k → p i ≡ false) → (k < n → p k ≡ true) → lowest n p ≡ k
lowest_is n p k l misses hit =
    let low : k ≤ lowest n p =
    ⊎_elim
    (λ h. h)
    (λ (h : lowest n p < k). absurd (true≢false (sym (lowest_hit n p (omega (arith, lowest-within n p))) ∙ misses (lowest n p) h)))
    (le_or_gt k (lowest n p)) in
    ⊎_elim
    (λ (h : k < n). omega (arith, lowest-le n p k (hit h)))
    (λ (h : n ≤ k). omega (arith, lowest-within n p))
    (lt_or_ge k n)

-- ---- every

pub every_all : (n : ℕ) (p : ℕ → Bool) → every n p ≡ true → (i : ℕ) → i < n → p i ≡ true
unfolding every
every_all zero p e i h = absurd (omega arith)
every_all (suc n) p e i h =
    ⊎_elim (λ (s : i ≡ n). rw s (and_right (every n p) (p n) e)) (λ d. every_all n p (and_left (every n p) (p n) e) i (omega arith)) (same_or_not i n)

pub all_every : (n : ℕ) (p : ℕ → Bool) → ((i : ℕ) → i < n → p i ≡ true) → every n p ≡ true
unfolding every
all_every zero p e = refl
all_every (suc n) p e = rw (all_every n p (λ i h. e i (omega arith)), e n (omega arith))

pub every_cong : (n : ℕ) (p q : ℕ → Bool) → ((i : ℕ) → i < n → p i ≡ q i) → every n p ≡ every n q
unfolding every
every_cong zero p q e = refl
every_cong (suc n) p q e = rw (every_cong n p q (λ i h. e i (omega arith)), e n (omega arith))

-- from the front: the first passes, and every one behind it
pub every_front : (n : ℕ) (p : ℕ → Bool) → every (suc n) p ≡ p 0 && every n (λ i. p (suc i))
unfolding every
every_front zero p = go (p 0)
  where
    go : (t : Bool) → true && t ≡ t && true
    go true = refl
    go false = refl
every_front (suc n) p = rw (every_front n p) (and_assoc (p 0) (every n (λ i. p (suc i))) (p (suc n)))
  where
    and_assoc : (a b c : Bool) → (a && b) && c ≡ a && (b && c)
    and_assoc true b c = refl
    and_assoc false b c = refl

-- ---- sums

pub sum_cong : (n : ℕ) (g h : ℕ → ℕ) → ((i : ℕ) → i < n → g i ≡ h i) → sum n g ≡ sum n h
unfolding sum
sum_cong zero g h e = refl
sum_cong (suc n) g h e = omega (arith, sum_cong n g h (λ i l. e i (omega arith)), e n (omega arith))

pub sum-add : (n : ℕ) (g h : ℕ → ℕ) → sum n (λ i. g i + h i) ≡ sum n g + sum n h
unfolding sum
sum-add zero g h = refl
sum-add (suc n) g h = omega (arith, sum-add n g h)

pub sum_constant : (n k : ℕ) → sum n (λ i. k) ≡ k * n
unfolding sum
sum_constant zero k = omega arith
sum_constant (suc n) k = omega (arith, sum_constant n k)

pub sum_swap : (n m : ℕ) (g : ℕ → ℕ → ℕ) → sum n (λ i. sum m (λ j. g i j)) ≡ sum m (λ j. sum n (λ i. g i j))
unfolding sum
sum_swap zero m g = omega (arith, sum_constant m 0)
sum_swap (suc n) m g = omega (arith, sum_swap n m g, sum-add m (λ j. sum n (λ i. g i j)) (g n))

-- one term is at most the sum
pub sum_term : (n : ℕ) (g : ℕ → ℕ) (k : ℕ) → k < n → g k ≤ sum n g
unfolding sum
sum_term zero g k h = absurd (omega arith)
sum_term (suc n) g k h =
    ⊎_elim (λ (s : k ≡ n). rw s (omega arith)) (λ (d : k ≢ n). omega (arith, sum_term n g k (omega arith))) (same_or_not k n)

-- two rules that differ at k only
pub sum_update : (n : ℕ) (g h : ℕ → ℕ) (k : ℕ) → k < n → ((i : ℕ) → i < n → i ≢ k → g i ≡ h i) → sum n h + g k ≡ sum n g + h k
unfolding sum
sum_update zero g h k l e = absurd (omega arith)
sum_update (suc n) g h k l e =
    ⊎_elim
    (λ (s : k ≡ n). let r : sum n g ≡ sum n h = sum_cong n g h (λ i m. e i (omega arith) (omega arith)) in rw s (omega arith))
    (λ (d : k ≢ n).
    let r : sum n h + g k ≡ sum n g + h k = sum_update n g h k (omega arith) (λ i m f. e i (omega arith) f) in
    let q : g n ≡ h n = e n (omega arith) (λ f. d (sym f)) in
    omega arith)
    (same_or_not k n)

-- one for the one index that equals a
pub sum_one : (n a : ℕ) → sum n (λ i. tally (eqb a i)) ≡ tally (ltb a n)
unfolding sum
sum_one zero a = rw (le-ltb a 0 (omega arith))
sum_one (suc n) a =
    ⊎_elim
    (λ (s : a ≡ n). rw (sum_one n a, eq-eqb a n s, le-ltb a n (omega arith), lt-ltb a (suc n) (omega arith)))
    (λ (d : a ≢ n). ⊎_elim
    (λ (l : a ≤ n). rw (sum_one n a, ne_eqb a n d, lt-ltb a n (omega arith), lt-ltb a (suc n) (omega arith)))
    (λ (g : n < a). rw (sum_one n a, ne_eqb a n d, le-ltb a n (omega arith), le-ltb a (suc n) (omega arith)))
    (le_or_gt a n))
    (same_or_not a n)

-- ---- how many pass

pub how_many_cong : (n : ℕ) (p q : ℕ → Bool) → ((i : ℕ) → i < n → p i ≡ q i) → how_many n p ≡ how_many n q
unfolding how_many
how_many_cong n p q e = sum_cong n _ _ (λ i h. ap tally (e i h))

pub how_many_none : (n : ℕ) (p : ℕ → Bool) → ((i : ℕ) → i < n → p i ≡ false) → how_many n p ≡ 0
unfolding how_many
how_many_none n p e =
    omega (arith, sum_cong n (λ i. tally (p i)) (λ i. 0) (λ i h. ap tally (e i h)), sum_constant n 0)

pub how_many_mono : (n : ℕ) (p q : ℕ → Bool) → ((i : ℕ) → i < n → p i ≡ true → q i ≡ true) → how_many n p ≤ how_many n q
unfolding how_many sum
how_many_mono zero p q e = omega arith
how_many_mono (suc n) p q e =
    let r : how_many n p ≤ how_many n q = how_many_mono n p q (λ i h. e i (omega arith)) in
    let s : tally (p n) ≤ tally (q n) = go (p n) (q n) (e n (omega arith)) in
    omega arith
  where
    go : (a b : Bool) → (a ≡ true → b ≡ true) → tally a ≤ tally b
    go true b h = rw (h refl) (omega arith)
    go false b h = omega arith

-- two tests that differ at k only
pub how_many_update : (n : ℕ) (p q : ℕ → Bool) (k : ℕ) → k < n → ((i : ℕ) → i < n → i ≢ k → p i ≡ q i)
    → how_many n q + tally (p k) ≡ how_many n p + tally (q k)
unfolding how_many
how_many_update n p q k l e = sum_update n (λ i. tally (p i)) (λ i. tally (q i)) k l (λ i h d. ap tally (e i h d))

-- one index passes, and no other
pub how_many-one : (n : ℕ) (p : ℕ → Bool) (k : ℕ) → k < n → p k ≡ true → ((i : ℕ) → i < n → i ≢ k → p i ≡ false) → how_many n p ≡ 1
how_many-one n p k l e others =
    omega (arith, how_many_update n p (λ i. false) k l others, how_many_none n (λ i. false) (λ i h. refl), ap tally e)

-- where one passes, the lowest is there
pub some_lowest : (n : ℕ) (p : ℕ → Bool) → 0 < how_many n p → lowest n p < n
some_lowest n p h =
    ⊎_elim
    (λ (g : n ≤ lowest n p). absurd (let z : how_many n p ≡ 0 = how_many_none n p (λ i l. lowest_misses n p i (omega arith)) in omega arith))
    (λ l. l)
    (le_or_gt n (lowest n p))
