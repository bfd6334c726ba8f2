-- Records in runs of 32, a block at a time: a search and a count over them, as a loop over blocks meets them.
use Prim.Native.Nat.{ℕ, ◌+◌, ◌-◌, ◌*◌, ◌≤◌, ◌<◌, min}
use Rattle.std.specs.Prelude.{◌≡◌, Bool}
use Rattle.std.proofs.Common.{sym, ◌∙◌, ⊎_elim, true≢false}
use native.Mathlib.Omega.{arith}
use Rattle.records.specs.Rows.{lowest, lowest_from}
use Rattle.records.specs.RowLaws.{Found, from_found, lowest_hit, lowest_misses}
use Rattle.records.specs.Tests.{lt_or_ge}

-- what is found from i on among n is one index
pub found_is : (i n : ℕ) (p : ℕ → Bool) (r : ℕ) → Found i n p r → lowest_from i n p ≡ r
found_is i n p r f =
    let g = from_found i n p in
    let clash : (a b : ℕ) → Found i n p a → Found i n p b → a < b → ⊥ = λ a b fa fb (l : a < b).
    true≢false (sym (fa.hit (omega (arith, fb.high))) ∙ fb.misses a fa.low l) in
    ⊎_elim
    (λ (l : lowest_from i n p < r). absurd (clash (lowest_from i n p) r g f l))
    (λ (l : r ≤ lowest_from i n p). ⊎_elim
    (λ (m : r < lowest_from i n p). absurd (clash r (lowest_from i n p) f g m))
    (λ (m : lowest_from i n p ≤ r). let e : lowest_from i n p ≡ r = omega arith in e)
    (lt_or_ge r (lowest_from i n p)))
    (lt_or_ge (lowest_from i n p) r)

-- ---- a search among c records, of which the first k runs have been passed

abbrev pub left_from : ℕ → (ℕ → Bool) → ℕ → ℕ
left_from c p k = lowest_from (min (32 * k) c) (c - 32 * k) p

module _ (c : ℕ) (p : ℕ → Bool) where
  pub run_start : lowest c p ≡ left_from c p 0
  unfolding lowest
  run_start = rw (a, b)
    where
      a : min (32 * 0) c ≡ 0
      a = omega arith

      b : c - 32 * 0 ≡ c
      b = omega arith

  module _ (k : ℕ) where
    pub run_end : c ≤ 32 * k → lowest c p ≡ left_from c p k → lowest c p ≡ c
    unfolding lowest_from
    run_end h e =
        let a : min (32 * k) c ≡ c = omega arith in
        let b : c - 32 * k ≡ 0 = omega arith in
        e ∙ rw (a, b)

    -- what one run of n records gives
    module _ (n : ℕ) (size : n ≡ min 32 (c - 32 * k)) (more : 32 * k < c) where
      start : min (32 * k) c ≡ 32 * k
      start = omega arith

      pub run_hit : (j : ℕ) → j ≡ lowest n (λ x. p (32 * k + x)) → j < n → lowest c p ≡ left_from c p k → lowest c p ≡ 32 * k + j
      run_hit j is l e =
          let found : Found (32 * k) (c - 32 * k) p (32 * k + j) =
          record {
            low = omega arith;
            high = omega arith;
            misses = λ x (a : 32 * k ≤ x) (b : x < 32 * k + j).
                let back : 32 * k + (x - 32 * k) ≡ x = omega arith in
                rw back at (lowest_misses n (λ y. p (32 * k + y)) (x - 32 * k) (omega (arith, is)));
            hit = λ h. rw (← is) at (lowest_hit n (λ y. p (32 * k + y)) (omega (arith, is)));
          } in
          e ∙ rw start (found_is (32 * k) (c - 32 * k) p (32 * k + j) found)

      pub run_miss : lowest n (λ x. p (32 * k + x)) ≡ n → lowest c p ≡ left_from c p k → lowest c p ≡ left_from c p (k + 1)
      run_miss none e =
          let next : min (32 * (k + 1)) c ≡ 32 * k + n = omega arith in
          let r = lowest_from (32 * k + n) (c - 32 * (k + 1)) p in
          let g : Found (32 * k + n) (c - 32 * (k + 1)) p r = from_found (32 * k + n) (c - 32 * (k + 1)) p in
          let low = g.low in
          let high = g.high in
          let found : Found (32 * k) (c - 32 * k) p r =
          record {
            low = omega arith;
            high = omega arith;
            misses = λ x (a : 32 * k ≤ x) (b : x < r). ⊎_elim
                (λ (l : x < 32 * k + n).
                let back : 32 * k + (x - 32 * k) ≡ x = omega arith in
                rw back at (lowest_misses n (λ y. p (32 * k + y)) (x - 32 * k) (omega (arith, none))))
                (λ (l : 32 * k + n ≤ x). g.misses x l b)
                (lt_or_ge x (32 * k + n));
            hit = λ (h : r < 32 * k + (c - 32 * k)). g.hit (omega arith);
          } in
          e ∙ rw (start, next) (found_is (32 * k) (c - 32 * k) p r found)
