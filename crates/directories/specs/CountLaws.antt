-- How many records name a file, and how many are not blank, where one record of a directory is written anew or added.
use Prim.Native.Nat.{ℕ, suc, ◌+◌, ◌*◌, ◌≤◌, ◌<◌, max}
use Rattle.std.specs.Prelude.{◌≡◌, ◌≢◌, List, false, length}
use Rattle.std.proofs.Math.Path.{refl, ap}
use Rattle.std.proofs.Common.{sym, ◌∙◌, ⊎_elim, arith}
use Rattle.std.proofs.Math.Bool.{Bool}
use Rattle.std.proofs.Math.Dec.{eqb}
use borrow.Author.Tests.{ne_eqb}
use Rattle.records.specs.Rows.{tally, how_many, sum}
use Rattle.records.specs.RowLaws.{how_many_cong, how_many_update}
use Rattle.records.specs.Tests.{lt_or_ge}
use Rattle.records.specs.Numbers.{one, two}
use Rattle.meaning.specs.Name.{Entry, entry_in, record_count, record_at, entry_at, names_in, with_entry}
use Rattle.meaning.proofs.FileLaws.{byte_past}
use Rattle.directories.specs.EntryLaws.{length_record, count_with, entry-same, entry_other}

-- a record past the end names no file
pub past_file : (dir : List ℕ) (i : ℕ) → length dir ≤ 16 * i → (entry_at dir i).file ≡ 0
unfolding entry_at entry_in two one
past_file dir i h =
    let none = length_record dir i in
    omega (arith, byte_past (record_at dir i) 0 (omega arith), byte_past (record_at dir i) (0 + 1) (omega arith))

-- ---- counts over the records, where the test at record i alone changes and a record past the end does not pass

module _ (p q : ℕ → Bool) (n i : ℕ) (others : (j : ℕ) → j ≢ i → q j ≡ p j) (within : i ≤ n) where
  -- how_many one further
  more : (m : ℕ) (t : ℕ → Bool) → how_many (suc m) t ≡ how_many m t + tally (t m)
  unfolding how_many sum
  more m t = refl

  -- record i is one of the n, or is added
  pub count-change : (n ≤ i → p i ≡ false) → how_many (max n (suc i)) q + tally (p i) ≡ how_many n p + tally (q i)
  count-change past =
      ⊎_elim
      (λ (l : i < n).
      let m : max n (suc i) ≡ n = omega arith in
      rw m (how_many_update n p q i l (λ j b d. sym (others j d))))
      (λ (l : n ≤ i).
      let e : i ≡ n = omega arith in
      let m : max n (suc i) ≡ suc n = omega arith in
      let below : how_many n q ≡ how_many n p = how_many_cong n q p (λ j (h : j < n). others j (omega arith)) in
      let none : tally (p i) ≡ 0 = ap tally (past l) in
      let at : tally (q n) ≡ tally (q i) = ap (λ (k : ℕ). tally (q k)) (sym e) in
      rw m (omega (arith, more n q)))
      (lt_or_ge i n)

module _ (dir r : List ℕ) (n i : ℕ) (whole : length dir ≡ 16 * n) (size : length r ≡ 16) (within : i ≤ n) where
  count : record_count dir ≡ n
  count = omega arith

  -- the records that name file f
  pub names_with : (f : ℕ) → f ≢ 0
      → names_in (with_entry dir i r) f + tally (eqb (entry_at dir i).file f) ≡ names_in dir f + tally (eqb (entry_in r).file f)
  unfolding names_in
  names_with f some =
      let p : ℕ → Bool = λ j. eqb (entry_at dir j).file f in
      let q : ℕ → Bool = λ j. eqb (entry_at (with_entry dir i r) j).file f in
      let change = count-change p q n i (λ j d. ap (λ (e : Entry). eqb e.file f) (entry_other dir r n i whole size within j d)) within
      (λ (l : n ≤ i). ne_eqb (entry_at dir i).file f (λ e. some (sym e ∙ past_file dir i (omega arith)))) in
      rw (count_with dir r n i whole size within, count) (rw (entry-same dir r n i whole size within) at change)
