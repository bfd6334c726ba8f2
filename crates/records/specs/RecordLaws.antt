-- Laws of writes: what is read after a row of stores, and after a record is written anew, in that record and in another.
-- Stated once, over the record size. An index `j` with `j ≡ ..` is free, so that a caller's own form of it serves.
use Rattle.std.specs.Prelude.{ℕ, zero, suc, ◌+◌, ◌*◌, ◌≤◌, ◌<◌, ◌≡◌, refl, ◌≢◌, ◌⊎◌, List, [], ◌∷◌, ◌++◌, length, get_or, set}
use Rattle.std.proofs.Common.{◌∙◌, ⊎_elim, arith, mul-le-mul_left, length-set, get_or-set_same, get_or-set_other}
use Rattle.std.proofs.Math.Logic.{inl, inr}
use Rattle.std.proofs.lemmas.List.Edits.{sets}
use Rattle.std.proofs.Math.Seq.{length-sets, set_out}
use Rattle.records.specs.Tests.{le_or_gt}
use Rattle.records.specs.Numbers.{one, two, four, zeros, with_record}
use Rattle.records.specs.NumberLaws.{one_cong, two_cong, four_cong, zeros_cong}

-- ---- a row of stores

module _ {A : Type 0} where
  -- an element that it leaves alone
  pub get_or-sets-out : (vs l : List A) (at j : ℕ) (d : A) → (j < at) ⊎ (at + length vs ≤ j) → get_or (sets l at vs) j d ≡ get_or l j d
  get_or-sets-out [] l at j d h = refl
  get_or-sets-out (v ∷ vs) l at j d h =
      let h' : (j < suc at) ⊎ (suc at + length vs ≤ j) = ⊎_elim (λ b. inl (omega arith)) (λ b. inr (omega arith)) h in
      let n : j ≢ at = ⊎_elim (λ b. omega arith) (λ b. omega arith) h in
      get_or-sets-out vs (set l at v) (suc at) j d h' ∙ get_or-set_other l at j v d n

  -- its element k
  pub get_or-sets_in : (vs l : List A) (at j k : ℕ) (d : A) → at + length vs ≤ length l → k < length vs → j ≡ at + k → get_or (sets l at vs) j d ≡ get_or vs k d
  get_or-sets_in [] l at j k d f h e = absurd (omega arith)
  get_or-sets_in (v ∷ vs) l at j zero d f h e =
      let e' : j ≡ at = omega arith in
      get_or-sets-out vs (set l at v) (suc at) j d (inl (omega arith)) ∙ rw e' (get_or-set_same l at v d (omega arith))
  get_or-sets_in (v ∷ vs) l at j (suc k) d f h e =
      get_or-sets_in vs (set l at v) (suc at) j k d (rw length-set (omega arith)) (omega arith) (omega arith)

  -- one row of stores right after another is one row
  pub sets-append : (xs ys l : List A) (at j : ℕ) → j ≡ at + length xs → sets (sets l at xs) j ys ≡ sets l at (xs ++ ys)
  sets-append [] ys l at j e = let e' : j ≡ at = omega arith in rw e'
  sets-append (x ∷ xs) ys l at j e = sets-append xs ys (set l at x) (suc at) j (omega arith)

  pub then_sets : (xs ys l l₁ l₂ : List A) (at j : ℕ) → j ≡ at + length xs → l₁ ≡ sets l at xs → l₂ ≡ sets l₁ j ys → l₂ ≡ sets l at (xs ++ ys)
  then_sets xs ys l l₁ l₂ at j e p q = rw (q, p) (sets-append xs ys l at j e)

  -- past the end nothing is stored
  pub sets_past : (vs l : List A) (at : ℕ) → length l ≤ at → sets l at vs ≡ l
  sets_past [] l at h = refl
  sets_past (v ∷ vs) l at h = rw (set_out l at v h) (sets_past vs l (suc at) (omega arith))

-- ---- a record written anew

-- records of one size at two numbers lie apart
pub apart : (size q r : ℕ) → q ≢ r → (size * q + size ≤ size * r) ⊎ (size * r + size ≤ size * q)
apart size q r d =
    ⊎_elim
    (λ (h : q ≤ r). let l : suc q ≤ r = omega arith in inl (omega (arith, mul-le-mul_left size l)))
    (λ (h : r < q). inr (omega (arith, mul-le-mul_left size h)))
    (le_or_gt q r)

module _ (size : ℕ) (table : List ℕ) (r : ℕ) (v : List ℕ) where
  pub length-with_record : length (with_record size table r v) ≡ length table
  unfolding with_record
  length-with_record = length-sets table (size * r) v

  -- a record past the end of the table is not written
  pub with_record_past : length table ≤ size * r → with_record size table r v ≡ table
  unfolding with_record
  with_record_past h = sets_past v table (size * r) h

  -- what is read in the record that was written
  module _ (fits : size * r + size ≤ length table) (whole : length v ≤ size) where
    pub byte_written : (off j : ℕ) → j ≡ size * r + off → off < length v → get_or (with_record size table r v) j 0 ≡ get_or v off 0
    unfolding with_record
    byte_written off j e h = get_or-sets_in v table (size * r) j off 0 (omega arith) h e

    written : (off j n : ℕ) → j ≡ size * r + off → off + n ≤ length v → (k : ℕ) → k < n
        → get_or (with_record size table r v) (j + k) 0 ≡ get_or v (off + k) 0
    written off j n e h k l = byte_written (off + k) (j + k) (omega arith) (omega arith)

    pub one_written : (off j : ℕ) → j ≡ size * r + off → off < length v → one (with_record size table r v) j ≡ one v off
    one_written off j e h = one_cong (with_record size table r v) v j off (byte_written off j e h)

    pub two-written : (off j : ℕ) → j ≡ size * r + off → off + 2 ≤ length v → two (with_record size table r v) j ≡ two v off
    two-written off j e h = two_cong (with_record size table r v) v j off (written off j 2 e h)

    pub four-written : (off j : ℕ) → j ≡ size * r + off → off + 4 ≤ length v → four (with_record size table r v) j ≡ four v off
    four-written off j e h = four_cong (with_record size table r v) v j off (written off j 4 e h)

    pub zeros-written : (off j n : ℕ) → j ≡ size * r + off → off + n ≤ length v → zeros (with_record size table r v) j n ≡ zeros v off n
    zeros-written off j n e h = zeros_cong (with_record size table r v) v j off n (written off j n e h)

  -- what is read in another record q
  module _ (whole : length v ≤ size) (q : ℕ) (other : q ≢ r) where
    pub byte_kept : (off j : ℕ) → j ≡ size * q + off → off < size → get_or (with_record size table r v) j 0 ≡ get_or table j 0
    unfolding with_record
    byte_kept off j e h =
        get_or-sets-out v table (size * r) j 0
        (⊎_elim (λ (b : size * q + size ≤ size * r). inl (omega arith)) (λ (b : size * r + size ≤ size * q). inr (omega arith)) (apart size q r other))

    kept : (off j n : ℕ) → j ≡ size * q + off → off + n ≤ size → (k : ℕ) → k < n
        → get_or (with_record size table r v) (j + k) 0 ≡ get_or table (j + k) 0
    kept off j n e h k l = byte_kept (off + k) (j + k) (omega arith) (omega arith)

    pub one_kept : (off j : ℕ) → j ≡ size * q + off → off < size → one (with_record size table r v) j ≡ one table j
    one_kept off j e h = one_cong (with_record size table r v) table j j (byte_kept off j e h)

    pub two_kept : (off j : ℕ) → j ≡ size * q + off → off + 2 ≤ size → two (with_record size table r v) j ≡ two table j
    two_kept off j e h = two_cong (with_record size table r v) table j j (kept off j 2 e h)

    pub four_kept : (off j : ℕ) → j ≡ size * q + off → off + 4 ≤ size → four (with_record size table r v) j ≡ four table j
    four_kept off j e h = four_cong (with_record size table r v) table j j (kept off j 4 e h)

    pub zeros_kept : (off j n : ℕ) → j ≡ size * q + off → off + n ≤ size → zeros (with_record size table r v) j n ≡ zeros table j n
    zeros_kept off j n e h = zeros_cong (with_record size table r v) table j j n (kept off j n e h)
