-- What is left to take gives what the whole gives, and no block below b is free: the step at b, and the end.
use Prim.Native.Nat.{ℕ, zero, suc, ◌+◌, ◌-◌, ◌*◌, ◌≤◌, ◌<◌}
use mathlib.Core.Path.{◌≡◌, refl, sym, ap, ◌∙◌}
use mathlib.Core.Logic.{◌≢◌, ⊎_elim}
use mathlib.Core.List.{List}
use mathlib.Core.Bool.{Bool, true, false, true≢false}
use native.Mathlib.Omega.{arith}
use lib.ListN.{length}
use borrow.Author.Tests.{ne_eqb}
use Rattle.records.specs.Rows.{pick, tally, lowest}
use Rattle.records.specs.Numbers.{with_record}
use Rattle.records.specs.Tests.{same_or_not, lt_or_ge}
use Rattle.records.specs.RowLaws.{lowest_hit, lowest-le}
use Rattle.records.specs.RecordLaws.{length-with_record, with_record_past}
use Rattle.meaning.specs.Tables.{block_count, block_record, is_free, block_of, taken, taken_from}
use Rattle.tables.specs.ReadBack.{holds-written, holds_kept}
use Rattle.blocks.specs.Places.{taken_at, WholeRecords, Took}

-- no block below b is free
abbrev pub NoneFree : List ℕ → ℕ → Type 0
NoneFree records b = (k : ℕ) → k < b → is_free records k ≡ false

-- then the lowest free block is not below b; it is b where b is free
module _ (records : List ℕ) (b : ℕ) (none : NoneFree records b) (within : b ≤ block_count records) where
  not_below : b ≤ block_of records 0 0
  unfolding block_of
  not_below =
      ⊎_elim
      (λ (l : lowest (block_count records) (λ k. is_free records k) < b).
      absurd (true≢false (sym (lowest_hit (block_count records) (λ k. is_free records k) (omega arith)) ∙ none (lowest (block_count records) (λ k. is_free records k)) l)))
      (λ l. l)
      (lt_or_ge (lowest (block_count records) (λ k. is_free records k)) b)

  is_lowest : is_free records b ≡ true → block_of records 0 0 ≡ b
  unfolding block_of
  is_lowest e = let l = lowest-le (block_count records) (λ k. is_free records k) b e in omega (arith, not_below)

-- where no block is free, none is taken
module _ (f : ℕ) where
  take_none : (n i : ℕ) (records : List ℕ) → length records ≤ 4 * block_of records 0 0 → taken_from records f i n ≡ records
  unfolding taken_from taken
  take_none zero i records h = refl
  take_none (suc n) i records h = rw (with_record_past 4 records (block_of records 0 0) (block_record f i) h) (take_none n (suc i) records h)

-- one place more is the lowest free block's
take-one : (records : List ℕ) (f i n b : ℕ) → block_of records 0 0 ≡ b → taken_from records f i (suc n) ≡ taken_from (with_record 4 records b (block_record f i)) f (suc i) n
unfolding taken_from taken
take-one records f i n b e = ap (λ (d : ℕ). taken_from (with_record 4 records d (block_record f i)) f (suc i) n) e

-- the loop at block b, with `done` places taken: what is left to take gives what the whole gives
pub record Taking (all : List ℕ) (f i n : ℕ) (records : List ℕ) (done b : ℕ) : Type 0 where
  pub same : length records ≡ length all
  pub so_far : taken_from all f i n ≡ taken_from records f (i + done) (n - done)
  pub none : NoneFree records b

pub take_start : (all : List ℕ) (f i n : ℕ) → Taking all f i n all 0 0
take_start all f i n =
    let e : i + 0 ≡ i = omega arith in
    let d : n - 0 ≡ n = omega arith in
    record { same = refl; so_far = rw (e, d); none = λ k (h : k < 0). absurd (omega arith) }

module _ (all : List ℕ) (f i n : ℕ) (records : List ℕ) (done b : ℕ) (taking : Taking all f i n records done b) where
  open taking use {same, so_far, none}

  pub take_enough : n ≤ done → records ≡ taken_from all f i n
  unfolding taken_from
  take_enough h = let e : n - done ≡ 0 = omega arith in sym (so_far ∙ rw e)

  pub take-end : WholeRecords all → b ≤ block_count all → block_count all ≤ b → records ≡ taken_from all f i n
  take-end w l h = sym (so_far ∙ take_none f (n - done) (i + done) records (omega (arith, w.whole, not_below records b none (omega arith))))

  module _ (small_file : f < 65536) (some : 0 < f) (small-place : i + n < 65536) (more : done < n) (inside : b < block_count all)
      (next : List ℕ) (r : ℕ) (took : Took records next f (i + done) b r) where
    left-to-take : (t : Bool) → is_free records b ≡ t → r ≡ tally t → next ≡ pick t (with_record 4 records b (block_record f (i + done))) records
        → taken_from all f i n ≡ taken_from next f (i + (done + r)) (n - (done + r))
    left-to-take true free count left =
        let left_over : n - done ≡ suc (n - (done + r)) = omega arith in
        let place : i + (done + r) ≡ suc (i + done) = omega arith in
        so_far ∙ rw (left_over, place, left)
        (take-one records f (i + done) (n - (done + r)) b (is_lowest records b none (omega arith) free))
    left-to-take false free count left =
        let e : done + r ≡ done = omega arith in
        so_far ∙ rw (e, left)

    length-next : (t : Bool) → next ≡ pick t (with_record 4 records b (block_record f (i + done))) records → length next ≡ length all
    length-next true left = ap length left ∙ length-with_record 4 records b (block_record f (i + done)) ∙ same
    length-next false left = ap length left ∙ same

    none_free : (t : Bool) → is_free records b ≡ t → next ≡ pick t (with_record 4 records b (block_record f (i + done))) records → NoneFree next (b + 1)
    none_free true free left k h =
        ⊎_elim
        (λ (s : k ≡ b). rw (left, s, holds-written records b f (i + done) (omega arith) small_file (omega arith) 0 0, ne_eqb f 0 (omega arith)))
        (λ (o : k ≢ b). rw (left, holds_kept records b f (i + done) k o 0 0) (none k (omega arith)))
        (same_or_not k b)
    none_free false free left k h =
        ⊎_elim (λ (s : k ≡ b). rw (left, s) free) (λ (o : k ≢ b). rw left (none k (omega arith))) (same_or_not k b)

    pub take_next : (sum : ℕ) → sum ≡ done + r → Taking all f i n next sum (b + 1)
    unfolding taken_at
    take_next sum e =
        record {
          same = length-next (is_free records b) took.left;
          so_far = rw e (left-to-take (is_free records b) refl took.count took.left);
          none = none_free (is_free records b) refl took.left;
        }

pub took_one : (records next : List ℕ) (f i b r : ℕ) → Took records next f i b r → r ≤ 1
took_one records next f i b r took = go (is_free records b) took.count
  where
    go : (t : Bool) → r ≡ tally t → r ≤ 1
    go true e = omega arith
    go false e = omega arith
