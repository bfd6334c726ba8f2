-- Laws of runs: a byte after a run is laid; no run, one run after another, a whole file.
use Rattle.std.specs.Prelude.{ℕ, ◌+◌, ◌-◌, ◌/◌, ◌≤◌, ◌<◌, ◌≡◌, ◌⊎◌, List, [], ◌++◌, false, ◌&&◌, length, get_or}
use Rattle.std.proofs.Common.{sym, ◌∙◌, inl, inr, ⊎_elim, true≢false, arith, length-append, ext_get_or, get_or-append-add}
use Rattle.std.proofs.Math.Bool.{true}
use Rattle.std.proofs.Math.ListN.{get_or-append}
use Rattle.std.proofs.Math.Dec.{leb, ltb, eqb}
use borrow.Author.Tests.{eq-eqb, eqb-true, leb-true, ltb-true, le-leb}
use Rattle.records.specs.Rows.{pick}
use Rattle.records.specs.Numbers.{one}
use Rattle.records.specs.Tests.{tested, and_left, and_right, between_in, lt_or_ge}
use Rattle.records.specs.ListLaws.{length-list_of, get_or-list_of, list_of_cong}
use Rattle.meaning.specs.Tables.{owner, laid}
use Rattle.blocks.specs.Runs.{byte_no, in_run, laid_run}

-- ---- whether a byte is in a run

pub record Within (records : List ℕ) (f at n k : ℕ) : Type 0 where
  pub its_file : owner records (k / 512) ≡ f
  pub low : at ≤ byte_no records k
  pub high : byte_no records k < at + n

module _ (records : List ℕ) (f at n k : ℕ) where
  is_in : Within records f at n k → in_run records f at n k ≡ true
  unfolding in_run
  is_in r = rw (eq-eqb (owner records (k / 512)) f r.its_file) (between_in at (byte_no records k) (at + n) r.low r.high)

  in_is : in_run records f at n k ≡ true → Within records f at n k
  unfolding in_run
  in_is e =
      let o = eqb (owner records (k / 512)) f in
      let l = leb at (byte_no records k) in
      let h = ltb (byte_no records k) (at + n) in
      let e' : l && h ≡ true = and_right o (l && h) e in
      record {
        its_file = eqb-true (owner records (k / 512)) f (and_left o (l && h) e);
        low = leb-true at (byte_no records k) (and_left l h e');
        high = ltb-true (byte_no records k) (at + n) (and_right l h e');
      }

  is_out : (Within records f at n k → ⊥) → in_run records f at n k ≡ false
  is_out d = ⊎_elim (λ e. absurd (d (in_is e))) (λ e. e) (tested (in_run records f at n k))

  pub within_or_not : Within records f at n k ⊎ (Within records f at n k → ⊥)
  within_or_not =
      ⊎_elim (λ e. inl (in_is e)) (λ e. inr (λ r. absurd (true≢false (sym (is_in r) ∙ e)))) (tested (in_run records f at n k))

-- ---- a byte after a run is laid

module _ (blocks records : List ℕ) (f at : ℕ) (bytes : List ℕ) where
  pub length-laid_run : length (laid_run blocks records f at bytes) ≡ length blocks
  unfolding laid_run
  length-laid_run = length-list_of (length blocks) _

  at-laid : (k : ℕ) → k < length blocks → get_or (laid_run blocks records f at bytes) k 0
      ≡ pick (in_run records f at (length bytes) k) (get_or bytes (byte_no records k - at) 0) (get_or blocks k 0)
  unfolding laid_run one
  at-laid k h = get_or-list_of (length blocks) _ k 0 h

  pub laid_in : (k : ℕ) → k < length blocks → Within records f at (length bytes) k
      → get_or (laid_run blocks records f at bytes) k 0 ≡ get_or bytes (byte_no records k - at) 0
  laid_in k h r = at-laid k h ∙ rw (is_in records f at (length bytes) k r)

  pub laid_out : (k : ℕ) → k < length blocks → (Within records f at (length bytes) k → ⊥)
      → get_or (laid_run blocks records f at bytes) k 0 ≡ get_or blocks k 0
  laid_out k h d = at-laid k h ∙ rw (is_out records f at (length bytes) k d)

-- no bytes: nothing changes
pub laid_run_none : (blocks records : List ℕ) (f at : ℕ) → laid_run blocks records f at [] ≡ blocks
laid_run_none blocks records f at =
    ext_get_or 0 (laid_run blocks records f at []) blocks (length-laid_run blocks records f at [])
    (λ k h. let h' : k < length blocks = rw length-laid_run at h in
    laid_out blocks records f at [] k h' (λ (r : Within records f at 0 k). absurd (omega arith)))

-- one run right after another is one run
module _ (blocks records : List ℕ) (f at : ℕ) (xs ys : List ℕ) (next : ℕ) (after : next ≡ at + length xs) where
  pub laid_run-append : laid_run (laid_run blocks records f at xs) records f next ys ≡ laid_run blocks records f at (xs ++ ys)
  laid_run-append =
      ext_get_or 0 (laid_run first records f next ys) (laid_run blocks records f at (xs ++ ys))
      (length-laid_run first records f next ys ∙ length-laid_run blocks records f at xs ∙ sym (length-laid_run blocks records f at (xs ++ ys)))
      (λ k h. byte k (rw (length-laid_run, length-laid_run) at h))
    where
      first : List ℕ
      first = laid_run blocks records f at xs

      byte : (k : ℕ) → k < length blocks → get_or (laid_run first records f next ys) k 0 ≡ get_or (laid_run blocks records f at (xs ++ ys)) k 0
      byte k h =
          let n = length-append xs ys in
          let h' : k < length first = rw (length-laid_run blocks records f at xs) h in
          ⊎_elim
          (λ (r : Within records f next (length ys) k).
          let e : byte_no records k - at ≡ length xs + (byte_no records k - next) = omega (arith, r.low, r.high) in
          laid_in first records f next ys k h' r
          ∙ sym (laid_in blocks records f at (xs ++ ys) k h (record { its_file = r.its_file; low = omega (arith, r.low); high = omega (arith, r.high) })
          ∙ rw e (get_or-append-add xs ys (byte_no records k - next) 0)))
          (λ (out : Within records f next (length ys) k → ⊥). laid_out first records f next ys k h' out ∙ ⊎_elim
          (λ (r : Within records f at (length xs) k).
          laid_in blocks records f at xs k h r
          ∙ sym (laid_in blocks records f at (xs ++ ys) k h (record { its_file = r.its_file; low = r.low; high = omega (arith, r.high) })
          ∙ get_or-append xs ys 0 (byte_no records k - at) (omega (arith, r.low, r.high))))
          (λ (out' : Within records f at (length xs) k → ⊥).
          laid_out blocks records f at xs k h out'
          ∙ sym (laid_out blocks records f at (xs ++ ys) k h (λ r. ⊎_elim
          (λ (l : byte_no records k < next). out' (record { its_file = r.its_file; low = r.low; high = omega arith }))
          (λ (l : next ≤ byte_no records k). out (record { its_file = r.its_file; low = l; high = omega (arith, r.high) }))
          (lt_or_ge (byte_no records k) next))))
          (within_or_not records f at (length xs) k))
          (within_or_not records f next (length ys) k)

-- a whole file laid is a run from byte 0 on
pub laid-whole : (blocks records : List ℕ) (f : ℕ) (bytes : List ℕ) → laid blocks records f bytes ≡ laid_run blocks records f 0 bytes
unfolding laid laid_run in_run
laid-whole blocks records f bytes =
    list_of_cong (length blocks) _ _ (λ k h.
    let n : 0 + length bytes ≡ length bytes = omega arith in
    let j : byte_no records k - 0 ≡ byte_no records k = omega arith in
    rw (n, j, le-leb 0 (byte_no records k) (omega arith)))
