-- A directory's listing, 14 bytes a name, has the names of the records that are not blank.
use Prim.Native.Nat.{ℕ, zero, suc, ◌+◌, ◌*◌, ◌≤◌, ◌<◌}
use Rattle.std.specs.Prelude.{◌≡◌, ◌≢◌, List, [], ◌++◌, true, false, not, take, drop, get_or, eqb}
use Rattle.std.proofs.Math.Path.{refl, ap}
use Rattle.std.proofs.Common.{sym, ◌∙◌, true≢false, length-append, length-drop, get_or-drop}
use Rattle.std.proofs.Math.Logic.{⊎_elim}
use native.Mathlib.Omega.{arith}
use Rattle.std.proofs.Math.ListN.{length}
use Rattle.std.proofs.Math.Seq.{take_at, drop-append-add}
use Rattle.records.specs.Rows.{tally, sum, how_many}
use Rattle.records.specs.RowLaws.{lowest_cong, sum_cong}
use Rattle.records.specs.Numbers.{one}
use Rattle.records.specs.Tests.{tested, same_or_not}
use Rattle.meaning.specs.Name.{name_end, entry_in, record_count, record_at, is_blank, entry_at, name_count, names_from, listing}
use Rattle.directories.specs.EntryLaws.{length_record}
use Rattle.source.specs.View.{row_at, row_name}

-- ---- the name in a row is the name in its record

pub row-name : (r : List ℕ) → row_name (drop 2 r) ≡ (entry_in r).name
unfolding row_name entry_in name_end one
row-name r =
    ap (λ (n : ℕ). take n (drop 2 r))
    (lowest_cong 14 (λ i. eqb (get_or (drop 2 r) i 0) 0) (λ i. eqb (get_or r (2 + i) 0) 0) (λ k h. ap (λ (b : ℕ). eqb b 0) (get_or-drop 2 r k 0)))

-- ---- rows, one after another

module _ (row rest : List ℕ) (size : length row ≡ 14) where
  pub first-row : row_at (row ++ rest) 0 ≡ row
  unfolding row_at
  first-row = take_at row rest 14 size

  pub later_row : (j : ℕ) → row_at (row ++ rest) (suc j) ≡ row_at rest j
  unfolding row_at
  later_row j =
      let e : 14 * suc j ≡ length row + 14 * j = omega arith in
      rw e (ap (take 14) (drop-append-add row rest (14 * j)))

-- ---- the rows of n records from record i on

module _ (dir : List ℕ) where
  rows_from : ℕ → ℕ → ℕ
  rows_from i zero = 0
  rows_from i (suc n) = tally (not (is_blank dir i)) + rows_from (suc i) n

  -- row j is that of record k
  record Row (i n : ℕ) (out : List ℕ) (j k : ℕ) : Type 0 where
    from : i ≤ k
    below : k < i + n
    used : is_blank dir k ≡ false
    is : row_at out j ≡ drop 2 (record_at dir k)

  record Rows (i n : ℕ) (out : List ℕ) (count : ℕ) : Type 0 where
    size : length out ≡ 14 * count
    each : (j : ℕ) → j < count → (k : ℕ) × Row i n out j k
    all : (k : ℕ) → i ≤ k → k < i + n → is_blank dir k ≡ false → (j : ℕ) × (j < count) × Row i n out j k

  -- a blank record adds nothing
  passed : (i n : ℕ) (out : List ℕ) (count : ℕ) → is_blank dir i ≡ true → Rows (suc i) n out count → Rows i (suc n) out count
  passed i n out count blank r =
      record {
        size = r.size;
        each = λ j h.
            let (k, row) = r.each j h in
            (k, record { from = omega (arith, row.from); below = omega (arith, row.below); used = row.used; is = row.is });
        all = λ k (from : i ≤ k) (below : k < i + suc n) used.
            let later : suc i ≤ k = omega (arith, not_i k used) in
            let (j, h, row) = r.all k later (omega arith) used in
            (j, h, record { from = from; below = below; used = used; is = row.is });
      }
    where
      not_i : (k : ℕ) → is_blank dir k ≡ false → k ≢ i
      not_i k used e = true≢false (sym blank ∙ ap (is_blank dir) (sym e) ∙ used)

  -- another adds its row
  module _ (i n : ℕ) (out : List ℕ) (count : ℕ) (whole : 16 * suc i ≤ length dir) (there : is_blank dir i ≡ false) (r : Rows (suc i) n out count) where
    abbrev row : List ℕ
    row = drop 2 (record_at dir i)

    row-size : length row ≡ 14
    row-size = omega (arith, length-drop 2 (record_at dir i), length_record dir i)

    own_row : Row i (suc n) (row ++ out) 0 i
    own_row = record { from = omega arith; below = omega arith; used = there; is = first-row row out row-size }

    further : (j k : ℕ) → Row (suc i) n out j k → Row i (suc n) (row ++ out) (suc j) k
    further j k x =
        record { from = omega (arith, x.from); below = omega (arith, x.below); used = x.used; is = later_row row out row-size j ∙ x.is }

    each_row : (j : ℕ) → j < suc count → (k : ℕ) × Row i (suc n) (row ++ out) j k
    each_row zero h = (i, own_row)
    each_row (suc j) h = let (k, x) = r.each j (omega arith) in (k, further j k x)

    all_rows : (k : ℕ) → i ≤ k → k < i + suc n → is_blank dir k ≡ false → (j : ℕ) × (j < suc count) × Row i (suc n) (row ++ out) j k
    all_rows k from below used =
        ⊎_elim
        (λ (e : k ≡ i). (0, omega arith, rw e own_row))
        (λ (o : k ≢ i). let (j, h, x) = r.all k (omega arith) (omega arith) used in (suc j, omega arith, further j k x))
        (same_or_not k i)

    added : Rows i (suc n) (row ++ out) (suc count)
    added = record { size = omega (arith, length-append row out, row-size, r.size); each = each_row; all = all_rows }

  no_rows : (i : ℕ) → Rows i 0 [] 0
  no_rows i =
      record {
        size = refl;
        each = λ j l. absurd (omega arith);
        all = λ k (from : i ≤ k) (below : k < i + 0) used. absurd (omega arith);
      }

  more_rows : (n i : ℕ) → 16 * suc i ≤ length dir → Rows (suc i) n (names_from dir (suc i) n) (rows_from (suc i) n) → Rows i (suc n) (names_from dir i (suc n)) (rows_from i (suc n))
  unfolding names_from rows_from
  more_rows n i h r =
      ⊎_elim
      (λ (b : is_blank dir i ≡ true).
      let none : 0 + rows_from (suc i) n ≡ rows_from (suc i) n = omega arith in
      rw (b, none) (passed i n (names_from dir (suc i) n) (rows_from (suc i) n) b r))
      (λ (b : is_blank dir i ≡ false).
      let more : 1 + rows_from (suc i) n ≡ suc (rows_from (suc i) n) = omega arith in
      rw (b, more) (added i n (names_from dir (suc i) n) (rows_from (suc i) n) h b r))
      (tested (is_blank dir i))

  this_one : (n i : ℕ) → 16 * (i + suc n) ≤ length dir → 16 * suc i ≤ length dir
  this_one n i h = omega arith

  the_rest : (n i : ℕ) → 16 * (i + suc n) ≤ length dir → 16 * (suc i + n) ≤ length dir
  the_rest n i h = omega arith

  rows_of : (n i : ℕ) → 16 * (i + n) ≤ length dir → Rows i n (names_from dir i n) (rows_from i n)
  unfolding names_from rows_from
  rows_of zero i h = no_rows i
  rows_of (suc n) i h = more_rows n i (this_one n i h) (rows_of n (suc i) (the_rest n i h))

  -- ---- as many rows as names

  sum-front : (n : ℕ) (g : ℕ → ℕ) → sum (suc n) g ≡ g 0 + sum n (λ k. g (suc k))
  unfolding sum
  sum-front zero g = omega arith
  sum-front (suc n) g = omega (arith, sum-front n g)

  rows-sum : (n i : ℕ) → rows_from i n ≡ sum n (λ k. tally (not (is_blank dir (i + k))))
  unfolding rows_from sum
  rows-sum zero i = refl
  rows-sum (suc n) i =
      let g : ℕ → ℕ = λ k. tally (not (is_blank dir (i + k))) in
      let here : i + 0 ≡ i = omega arith in
      let next : sum n (λ k. tally (not (is_blank dir (suc i + k)))) ≡ sum n (λ k. g (suc k)) =
      sum_cong n (λ k. tally (not (is_blank dir (suc i + k)))) (λ k. g (suc k)) (λ k h. let e : suc i + k ≡ i + suc k = omega arith in ap (λ (m : ℕ). tally (not (is_blank dir m))) e) in
      let first : g 0 ≡ tally (not (is_blank dir i)) = ap (λ (m : ℕ). tally (not (is_blank dir m))) here in
      omega (arith, sum-front n g, rows-sum n (suc i))

  rows-count : rows_from 0 (record_count dir) ≡ name_count dir
  unfolding name_count how_many
  rows-count =
      rows-sum (record_count dir) 0
      ∙ sum_cong (record_count dir) (λ k. tally (not (is_blank dir (0 + k)))) (λ k. tally (not (is_blank dir k)))
      (λ k h. let e : 0 + k ≡ k = omega arith in ap (λ (m : ℕ). tally (not (is_blank dir m))) e)

  -- ---- the listing

  module _ (whole : length dir ≡ 16 * record_count dir) where
    rows : Rows 0 (record_count dir) (listing dir) (name_count dir)
    unfolding listing
    rows = rw rows-count at (rows_of (record_count dir) 0 (omega arith))

    pub length-listing : length (listing dir) ≡ 14 * name_count dir
    length-listing = rows.size

    -- each row has the name of a record that is not blank
    pub row_record : (j : ℕ) → j < name_count dir → (k : ℕ) × (k < record_count dir) × (is_blank dir k ≡ false) × (row_name (row_at (listing dir) j) ≡ (entry_at dir k).name)
    unfolding entry_at
    row_record j h =
        let (k, x) = rows.each j h in
        (k, omega (arith, x.below), x.used, ap row_name x.is ∙ row-name (record_at dir k))

    -- and each such record has a row
    pub record_row : (k : ℕ) → k < record_count dir → is_blank dir k ≡ false → (j : ℕ) × (j < name_count dir) × (row_name (row_at (listing dir) j) ≡ (entry_at dir k).name)
    unfolding entry_at
    record_row k h used =
        let (j, l, x) = rows.all k (omega arith) (omega arith) used in
        (j, l, ap row_name x.is ∙ row-name (record_at dir k))
