-- The searches over a directory's records as their loops meet them: one record, one run of 32.
use Rattle.std.specs.Prelude.{ℕ, ◌+◌, ◌-◌, ◌*◌, ◌/◌, ◌%◌, ◌≤◌, ◌<◌, min, ◌≡◌, List, Bool, true, false, Some, None, length}
use Rattle.std.specs.Int.{div_ceil}
use Rattle.std.proofs.Math.Path.{ap, sym}
use Rattle.std.proofs.Common.{◌∙◌, arith, lt-ltb, le-ltb}
use Rattle.records.specs.Rows.{lowest, lowest_from, found_below, how_many}
use Rattle.records.specs.RowLaws.{lowest_cong, lowest-within}
use Rattle.records.specs.LoopLaws.{search_start, search_found, search_passed, search_none, count_start, count_hit, count_miss}
use Rattle.records.specs.Numbers.{zeros}
use Rattle.meaning.specs.Name.{same, entry_in}
use Rattle.meaning.specs.Tables.{block_count, block_of}
use Rattle.names.specs.RecordNames.{record_from}
use Rattle.directories.specs.Places.{record_place}
use Rattle.directories.specs.Runs.{left_from, run_start, run_hit, run_miss, run_end}
use Rattle.directories.specs.Find.{Lies, named_at, blank_at, run_lowest, place_lowest, place_passing}

-- the code's tests are the definitions'
pub named_test : (blocks name : List ℕ) (at : ℕ) (v : Bool) → v ≡ same (entry_in (record_from blocks at)).name name → v ≡ named_at blocks name at
unfolding named_at
named_test blocks name at v e = e

pub blank_test : (blocks : List ℕ) (at : ℕ) (v : Bool) → v ≡ zeros blocks at 16 → v ≡ blank_at blocks at
unfolding blank_at
blank_test blocks at v e = e

-- ---- within a run

module _ (test : ℕ → Bool) (at n : ℕ) where
  -- what is left of the run from record j on
  abbrev pub left_of : ℕ → ℕ
  left_of j = lowest_from j (n - j) (λ x. test (at + 16 * x))

  pub in_run_lem : run_lowest test at n ≡ left_of 0
  unfolding run_lowest
  in_run_lem = search_start (λ x. test (at + 16 * x)) n

module _ (test : ℕ → Bool) (at n j : ℕ) (left : run_lowest test at n ≡ left_of test at n j) where
  pub run-found : j < n → (v : Bool) → v ≡ test (at + 16 * j) → v ≡ true → j ≡ run_lowest test at n
  unfolding run_lowest
  run-found l v is passes = search_found (λ x. test (at + 16 * x)) n j left l (sym is ∙ passes)

  pub run-passed : j < n → (v : Bool) → v ≡ test (at + 16 * j) → v ≡ false → run_lowest test at n ≡ left_of test at n (j + 1)
  unfolding run_lowest
  run-passed l v is fails = search_passed (λ x. test (at + 16 * x)) n j left l (sym is ∙ fails)

  pub run_none : j ≤ n → n ≤ j → n ≡ run_lowest test at n
  unfolding run_lowest
  run_none l m = search_none (λ x. test (at + 16 * x)) n j left l m

-- ---- run by run

-- record x of run k lies at 16 * x in its block, whose bytes start at a place
pub run-place : (records : List ℕ) (d k at : ℕ) → at ≡ 512 * block_of records d k → (x : ℕ) → x < 32 → record_place records d (32 * k + x) ≡ at + 16 * x
unfolding record_place
run-place records d k start block x l =
    let run : (32 * k + x) / 32 ≡ k = omega arith in
    let at : (32 * k + x) % 32 ≡ x = omega arith in
    rw (run, at, block)

module _ (test : ℕ → Bool) (records : List ℕ) (d count : ℕ) where
  -- what is left of the directory from run k on
  abbrev pub left_in : ℕ → ℕ
  left_in k = left_from count (λ i. test (record_place records d i)) k

  pub in_places : place_lowest test records d count ≡ left_in 0
  unfolding place_lowest
  in_places = run_start count (λ i. test (record_place records d i))

module _ (test : ℕ → Bool) (records : List ℕ) (d count k : ℕ) (left : place_lowest test records d count ≡ left_in test records d count k) where
  pub places_none : count ≤ 32 * k → count ≡ place_lowest test records d count
  unfolding place_lowest
  places_none h = sym (run_end count (λ i. test (record_place records d i)) k h left)

  module _ (at : ℕ) (block : at ≡ 512 * block_of records d k) (more : 32 * k < count) (n : ℕ) (size : n ≡ min 32 (count - 32 * k)) (j : ℕ) (is : j ≡ run_lowest test at n) where
    same-run : j ≡ lowest n (λ x. test (record_place records d (32 * k + x)))
    unfolding run_lowest
    same-run = is ∙ lowest_cong n (λ x. test (at + 16 * x)) (λ x. test (record_place records d (32 * k + x))) (λ x (l : x < n). ap test (sym (run-place records d k at block x (omega arith))))

    pub places-found : j < n → 32 * k + j ≡ place_lowest test records d count
    unfolding place_lowest
    places-found l = sym (run_hit count (λ i. test (record_place records d i)) k n size more j same-run l left)

    pub places-passed : n ≤ j → place_lowest test records d count ≡ left_in test records d count (k + 1)
    unfolding place_lowest
    places-passed l =
        let most = lowest-within n (λ x. test (record_place records d (32 * k + x))) in
        let none : lowest n (λ x. test (record_place records d (32 * k + x))) ≡ n = omega (arith, same-run) in
        run_miss count (λ i. test (record_place records d i)) k n size more none left

-- ---- record by record, as a search and a count for a test p meet them at record j of run k

-- the runs of a directory
pub more_runs : (count k n : ℕ) → n ≡ div_ceil count 32 → k < n → 32 * k < count
more_runs count k n e h = grind arith

pub no_more_runs : (count k n : ℕ) → n ≡ div_ceil count 32 → n ≤ k → count ≤ 32 * k
no_more_runs count k n e h = grind arith

module _ (p : ℕ → Bool) (records : List ℕ) (d : ℕ) where
  -- record i passes
  abbrev pub passes : ℕ → Bool
  passes i = p (record_place records d i)

  -- what is left of `count` records from record i on gives what the whole gives
  abbrev pub LeftFrom : ℕ → ℕ → Type 0
  LeftFrom count i = place_lowest p records d count ≡ lowest_from i (count - i) passes

  -- so many of the first i records pass
  abbrev pub Passing : ℕ → ℕ → Type 0
  Passing i m = m ≡ how_many i passes

  module _ (count i : ℕ) where
    pub left_start : i ≡ 0 → LeftFrom count i
    unfolding place_lowest
    left_start e = rw e (search_start passes count)

    pub left-none : i ≡ count → LeftFrom count i → None ≡ found_below count (place_lowest p records d count)
    unfolding place_lowest found_below
    left-none e left =
        let none : count ≡ lowest count passes = search_none passes count i left (omega arith) (omega arith) in
        rw (← none, le-ltb count count (omega arith))

  pub passing_start : (i : ℕ) → i ≡ 0 → Passing i 0
  passing_start i e = rw e (sym (count_start passes))

  pub passing_all : (i count m : ℕ) → i ≡ count → Passing i m → m ≡ place_passing p records d count
  unfolding place_passing
  passing_all i count m e so_far = rw e at so_far

  module _ (k j at : ℕ) (block : at ≡ 512 * block_of records d k) (few : j < 32) (v : Bool) (is : v ≡ p (at + 16 * j)) where
    here : passes (32 * k + j) ≡ v
    here = rw (run-place records d k at block j few) (sym is)

    next : 32 * k + (j + 1) ≡ 32 * k + j + 1
    next = omega arith

    module _ (count : ℕ) (inside : 32 * k + j < count) (left : LeftFrom count (32 * k + j)) where
      pub left-found : v ≡ true → Some (32 * k + j) ≡ found_below count (place_lowest p records d count)
      unfolding place_lowest found_below
      left-found e =
          let found : 32 * k + j ≡ lowest count passes = search_found passes count (32 * k + j) left inside (here ∙ e) in
          rw (← found, lt-ltb (32 * k + j) count inside)

      pub left-passed : v ≡ false → LeftFrom count (32 * k + (j + 1))
      unfolding place_lowest
      left-passed e = rw next (search_passed passes count (32 * k + j) left inside (here ∙ e))

    module _ (m : ℕ) (so_far : Passing (32 * k + j) m) (more : ℕ) where
      pub passing-one : v ≡ true → more ≡ m + 1 → Passing (32 * k + (j + 1)) more
      passing-one e is = rw next (omega (arith, count_hit passes (32 * k + j) (here ∙ e)))

      pub passing-other : v ≡ false → more ≡ m → Passing (32 * k + (j + 1)) more
      passing-other e is = rw next (omega (arith, count_miss passes (32 * k + j) (here ∙ e)))

-- where the records of a directory lie, the first n of them lie
pub lies_first : (blocks records : List ℕ) (d count : ℕ) → Lies blocks records d count → (n : ℕ) → n ≤ count → Lies blocks records d n
lies_first blocks records d count lies n h =
    record {
      few-blocks = lies.few-blocks;
      table = lies.table;
      few = omega (arith, lies.few);
      there = λ k (l : 32 * k < n). lies.there k (omega arith);
    }

-- a run has a block
pub run-held : (blocks records : List ℕ) (d count k : ℕ) → Lies blocks records d count → 32 * k < count
    → (block_count records ≤ 65536) × (block_of records d k < block_count records)
run-held blocks records d count k lies more = (omega (arith, lies.few-blocks), lies.there k more)

-- and lies within the block table
module _ (blocks records : List ℕ) (d count k : ℕ) (lies : Lies blocks records d count) (at : ℕ) (block : at ≡ 512 * block_of records d k) (more : 32 * k < count) where
  pub block_inside : at + 512 ≤ length blocks
  block_inside = omega (arith, lies.there k more, lies.table)

  pub run_inside : (n : ℕ) → n ≡ min 32 (count - 32 * k) → (at + 16 * n ≤ length blocks) × (n ≤ 32)
  run_inside n size = omega (arith, block_inside)
