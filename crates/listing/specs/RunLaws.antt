-- Names counted and laid as the loops meet them: one record, one run of 32, then run by run; and record by record.
use Prim.Native.Nat.{ℕ, ◌+◌, ◌-◌, ◌*◌, ◌≤◌, ◌<◌, min}
use Rattle.std.specs.Prelude.{◌≡◌, true, false, length, take, drop}
use Rattle.std.proofs.Math.Path.{refl, ap, sym}
use Rattle.std.proofs.Common.{◌∙◌, length-append, length-take, length-drop}
use mathlib.Core.List.{List, ◌++◌}
use Rattle.std.proofs.Math.Bool.{Bool, not}
use native.Mathlib.Omega.{arith}
use Rattle.std.proofs.lemmas.List.Edits.{sets}
use Rattle.records.specs.Rows.{how_many}
use Rattle.records.specs.RowLaws.{how_many_cong}
use Rattle.records.specs.LoopLaws.{count_start, count_hit, count_miss, how_many-within}
use Rattle.records.specs.RecordLaws.{then_sets}
use Rattle.records.specs.Numbers.{zeros}
use Rattle.meaning.specs.File.{over}
use Rattle.meaning.specs.Tables.{block_of}
use Rattle.blocks.specs.ReadLaws.{over-sets}
use Rattle.directories.specs.Places.{record_place}
use Rattle.directories.specs.Find.{blank_at, place_passing}
use Rattle.directories.specs.FindLaws.{blank_test, run-place}
use Rattle.listing.specs.Names.{rows, name_at, run_count, run_names, place_count, place_names}
use Rattle.listing.specs.NameLaws.{how_many-split, rows_next, rows_split, rows_more, rows_cong, name_blank, name_there}

-- ---- the names counted: the code's test is the definition's

pub name_test : (blocks : List ℕ) (at : ℕ) (v : Bool) → v ≡ not (zeros blocks at 16) → v ≡ not (blank_at blocks at)
unfolding blank_at
name_test blocks at v e = e

pub names_passing : (blocks records : List ℕ) (d count : ℕ) → place_passing (λ at. not (blank_at blocks at)) records d count ≡ place_count blocks records d count
unfolding place_passing place_count
names_passing blocks records d count = refl

-- ---- a name laid, or none

module _ (blocks : List ℕ) (at : ℕ) (buffer : List ℕ) (to : ℕ) (v : Bool) (tested : v ≡ zeros blocks at 16) where
  blank_is : blank_at blocks at ≡ v
  blank_is = sym (blank_test blocks at v tested)

  pub none_ends : v ≡ true → to ≡ to + length (name_at blocks at)
  none_ends e = rw (name_blank blocks at (blank_is ∙ e)) (omega arith)

  pub none_laid : v ≡ true → buffer ≡ sets buffer to (name_at blocks at)
  none_laid e = rw (name_blank blocks at (blank_is ∙ e)) refl

  module _ (e : v ≡ false) (fits : at + 16 ≤ length blocks) where
    there : name_at blocks at ≡ take 14 (drop (at + 2) blocks)
    there = name_there blocks at (blank_is ∙ e)

    fourteen : length (name_at blocks at) ≡ 14
    fourteen = rw there (simp (length-take, length-drop) (omega arith))

    -- the run that is copied
    run-is : take (at + 16 - (at + 2)) (drop (at + 2) blocks) ≡ name_at blocks at
    run-is = let e : at + 16 - (at + 2) ≡ 14 = omega arith in rw e (sym there)

    pub one-room : to + length (name_at blocks at) ≤ length buffer → to + length (take (at + 16 - (at + 2)) (drop (at + 2) blocks)) ≤ length buffer
    one-room room = rw run-is room

    pub one_ends : to + 14 ≡ to + length (name_at blocks at)
    one_ends = omega (arith, fourteen)

    pub one-laid : (next : List ℕ) → next ≡ sets buffer to (take (at + 16 - (at + 2)) (drop (at + 2) blocks)) → next ≡ sets buffer to (name_at blocks at)
    one-laid next p = rw run-is at p

-- ---- within a run

module _ (blocks : List ℕ) (at : ℕ) where
  pub run-count_start : 0 ≡ run_count blocks at 0
  unfolding run_count
  run-count_start = sym (count_start (λ j. not (blank_at blocks (at + 16 * j))))

  module _ (j names : ℕ) (so_far : names ≡ run_count blocks at j) (v : Bool) (tested : v ≡ zeros blocks (at + 16 * j) 16) (next : ℕ) where
    test_is : not (blank_at blocks (at + 16 * j)) ≡ not v
    test_is = ap not (sym (blank_test blocks (at + 16 * j) v tested))

    pub run-counted : not v ≡ true → next ≡ names + 1 → next ≡ run_count blocks at (j + 1)
    unfolding run_count
    run-counted e m = omega (arith, so_far, count_hit (λ x. not (blank_at blocks (at + 16 * x))) j (test_is ∙ e))

    pub run_skipped : not v ≡ false → next ≡ names → next ≡ run_count blocks at (j + 1)
    unfolding run_count
    run_skipped e m = omega (arith, so_far, count_miss (λ x. not (blank_at blocks (at + 16 * x))) j (test_is ∙ e))

  pub run-count-end : (j n names : ℕ) → names ≡ run_count blocks at j → j ≤ n → n ≤ j → names ≡ run_count blocks at n
  run-count-end j n names so_far l h = let e : j ≡ n = omega arith in rw e at so_far

  pub run-count-within : (n : ℕ) → run_count blocks at n ≤ n
  unfolding run_count
  run-count-within n = how_many-within (λ j. not (blank_at blocks (at + 16 * j))) n

  -- the names so far, and the next
  run-next : (j : ℕ) → run_names blocks at (j + 1) ≡ run_names blocks at j ++ name_at blocks (at + 16 * j)
  unfolding run_names
  run-next j = rows_next (λ x. name_at blocks (at + 16 * x)) j

  run_length : (j : ℕ) → length (run_names blocks at (j + 1)) ≡ length (run_names blocks at j) + length (name_at blocks (at + 16 * j))
  run_length j = ap length (run-next j) ∙ length-append (run_names blocks at j) (name_at blocks (at + 16 * j))

  run_more : (j n : ℕ) → j ≤ n → length (run_names blocks at j) ≤ length (run_names blocks at n)
  unfolding run_names
  run_more j n h = let e : j + (n - j) ≡ n = omega arith in rw e at (rows_more (λ x. name_at blocks (at + 16 * x)) j (n - j))

  module _ (buffer₀ : List ℕ) (to : ℕ) where
    pub run-end_start : to ≡ to + length (run_names blocks at 0)
    unfolding run_names rows
    run-end_start = omega arith

    pub run-laid_start : buffer₀ ≡ sets buffer₀ to (run_names blocks at 0)
    unfolding run_names rows
    run-laid_start = refl

    module _ (buffer : List ℕ) (end j : ℕ) (size : length buffer ≡ length buffer₀) (ends : end ≡ to + length (run_names blocks at j)) (so_far : buffer ≡ sets buffer₀ to (run_names blocks at j)) where
      pub run_room : (n : ℕ) → to + length (run_names blocks at n) ≤ length buffer₀ → j < n → end + length (name_at blocks (at + 16 * j)) ≤ length buffer
      run_room n room l = omega (arith, run_length j, run_more (j + 1) n (omega arith))

      pub run-end-next : (r : ℕ) → r ≡ end + length (name_at blocks (at + 16 * j)) → r ≡ to + length (run_names blocks at (j + 1))
      run-end-next r e = omega (arith, run_length j)

      pub run-laid-next : (next : List ℕ) → next ≡ sets buffer end (name_at blocks (at + 16 * j)) → next ≡ sets buffer₀ to (run_names blocks at (j + 1))
      run-laid-next next p = rw (run-next j) (then_sets (run_names blocks at j) (name_at blocks (at + 16 * j)) buffer₀ buffer next to end ends so_far p)

      pub run-end_all : (n : ℕ) → j ≤ n → n ≤ j → end ≡ to + length (run_names blocks at n)
      run-end_all n l h = let e : j ≡ n = omega arith in rw e at ends

      pub run-laid_all : (n : ℕ) → j ≤ n → n ≤ j → buffer ≡ sets buffer₀ to (run_names blocks at n)
      run-laid_all n l h = let e : j ≡ n = omega arith in rw e at so_far

-- ---- run by run

module _ (blocks records : List ℕ) (d count : ℕ) where
  -- the records of the first k runs
  abbrev pub passed : ℕ → ℕ
  passed k = min (32 * k) count

  pub places-count_start : 0 ≡ place_count blocks records d (passed 0)
  unfolding place_count
  places-count_start = let e : passed 0 ≡ 0 = omega arith in rw e (sym (count_start (λ i. not (blank_at blocks (record_place records d i)))))

  pub places-end_start : 0 ≡ length (place_names blocks records d (passed 0))
  unfolding place_names rows
  places-end_start = let e : passed 0 ≡ 0 = omega arith in rw e refl

  pub places-count-end : (k names : ℕ) → names ≡ place_count blocks records d (passed k) → count ≤ 32 * k → names ≡ place_count blocks records d count
  places-count-end k names so_far h = let e : passed k ≡ count = omega arith in rw e at so_far

  module _ (k at : ℕ) (block : at ≡ 512 * block_of records d k) (more : 32 * k < count) (n : ℕ) (size : n ≡ min 32 (count - 32 * k)) where
    first : passed k ≡ 32 * k
    first = omega arith

    both : passed (k + 1) ≡ 32 * k + n
    both = omega arith

    lies : (x : ℕ) → x < n → record_place records d (32 * k + x) ≡ at + 16 * x
    lies x l = run-place records d k at block x (omega arith)

    pub places-counted : (names : ℕ) → names ≡ place_count blocks records d (passed k) → (m : ℕ) → m ≡ run_count blocks at n
        → names + m ≡ place_count blocks records d (passed (k + 1))
    unfolding place_count run_count
    places-counted names so_far m is =
        let p : ℕ → Bool = λ i. not (blank_at blocks (record_place records d i)) in
        let run : m ≡ how_many n (λ x. p (32 * k + x)) =
        is ∙ how_many_cong n (λ x. not (blank_at blocks (at + 16 * x))) (λ x. p (32 * k + x)) (λ x l. ap (λ (y : ℕ). not (blank_at blocks y)) (sym (lies x l))) in
        let before : names ≡ how_many (32 * k) p = rw first at so_far in
        rw both (omega (arith, how_many-split p (32 * k) n))

    pub run_small : (m : ℕ) → m ≡ run_count blocks at n → m ≤ 32
    run_small m is = omega (arith, run-count-within blocks at n)

    -- the names of the run before, and of this one
    places-next : place_names blocks records d (passed (k + 1)) ≡ place_names blocks records d (passed k) ++ run_names blocks at n
    unfolding place_names run_names
    places-next =
        let g : ℕ → List ℕ = λ i. name_at blocks (record_place records d i) in
        let run : rows n (λ x. g (32 * k + x)) ≡ rows n (λ x. name_at blocks (at + 16 * x)) =
        rows_cong n (λ x. g (32 * k + x)) (λ x. name_at blocks (at + 16 * x)) (λ x l. ap (name_at blocks) (lies x l)) in
        rw (both, first, ← run) (rows_split g (32 * k) n)

    places-length : length (place_names blocks records d (passed (k + 1))) ≡ length (place_names blocks records d (passed k)) + length (run_names blocks at n)
    places-length = ap length places-next ∙ length-append (place_names blocks records d (passed k)) (run_names blocks at n)

    places_more : length (place_names blocks records d (passed (k + 1))) ≤ length (place_names blocks records d count)
    unfolding place_names
    places_more =
        let e : passed (k + 1) + (count - passed (k + 1)) ≡ count = omega arith in
        rw e at (rows_more (λ i. name_at blocks (record_place records d i)) (passed (k + 1)) (count - passed (k + 1)))

    module _ (buffer₀ buffer : List ℕ) (end : ℕ) (same_size : length buffer ≡ length buffer₀) (ends : end ≡ length (place_names blocks records d (passed k)))
        (so_far : buffer ≡ sets buffer₀ 0 (place_names blocks records d (passed k))) where
      pub places-room : length (place_names blocks records d count) ≤ length buffer₀ → end + length (run_names blocks at n) ≤ length buffer
      places-room room = omega (arith, places-length, places_more)

      pub places-end-next : (r : ℕ) → r ≡ end + length (run_names blocks at n) → r ≡ length (place_names blocks records d (passed (k + 1)))
      places-end-next r e = omega (arith, places-length)

      pub places-laid-next : (next : List ℕ) → next ≡ sets buffer end (run_names blocks at n) → next ≡ sets buffer₀ 0 (place_names blocks records d (passed (k + 1)))
      places-laid-next next p =
          rw places-next (then_sets (place_names blocks records d (passed k)) (run_names blocks at n) buffer₀ buffer next 0 end (omega arith) so_far p)

  module _ (buffer₀ : List ℕ) where
    pub places-laid_start : buffer₀ ≡ sets buffer₀ 0 (place_names blocks records d (passed 0))
    unfolding place_names rows
    places-laid_start = let e : passed 0 ≡ 0 = omega arith in rw e refl

    pub places-laid-end : (buffer : List ℕ) (k : ℕ) → buffer ≡ sets buffer₀ 0 (place_names blocks records d (passed k)) → count ≤ 32 * k → length (place_names blocks records d count) ≤ length buffer₀
        → buffer ≡ over buffer₀ (place_names blocks records d count)
    places-laid-end buffer k so_far h room =
        let e : passed k ≡ count = omega arith in
        let all : buffer ≡ sets buffer₀ 0 (place_names blocks records d count) = rw e at so_far in
        all ∙ over-sets (place_names blocks records d count) buffer₀ room

-- ---- record by record

module _ (blocks records : List ℕ) (d : ℕ) where
  abbrev names : ℕ → List ℕ
  names i = place_names blocks records d i

  -- the names of the first i records are laid over a buffer, up to `end`
  abbrev pub Laid : List ℕ → List ℕ → ℕ → ℕ → Type 0
  Laid buffer₀ buffer end i = (length buffer ≡ length buffer₀) × (end ≡ length (place_names blocks records d i)) × (buffer ≡ sets buffer₀ 0 (place_names blocks records d i))

  pub laid_start : (buffer : List ℕ) (i : ℕ) → i ≡ 0 → Laid buffer buffer 0 i
  unfolding place_names rows
  laid_start buffer i e = rw e (refl, refl, refl)

  pub laid_all : (buffer₀ buffer : List ℕ) (end i count : ℕ) → Laid buffer₀ buffer end i → i ≡ count → length (place_names blocks records d count) ≤ length buffer₀
      → buffer ≡ over buffer₀ (place_names blocks records d count)
  laid_all buffer₀ buffer end i count laid e room =
      rw e at laid.2 ∙ over-sets (place_names blocks records d count) buffer₀ room

  -- at record j of run k
  module _ (k j at : ℕ) (block : at ≡ 512 * block_of records d k) (few : j < 32) where
    next : names (32 * k + (j + 1)) ≡ names (32 * k + j) ++ name_at blocks (at + 16 * j)
    unfolding place_names
    next =
        let e : 32 * k + (j + 1) ≡ 32 * k + j + 1 = omega arith in
        let here : record_place records d (32 * k + j) ≡ at + 16 * j = run-place records d k at block j few in
        rw (e, rows_next (λ i. name_at blocks (record_place records d i)) (32 * k + j), here)

    longer : length (names (32 * k + (j + 1))) ≡ length (names (32 * k + j)) + length (name_at blocks (at + 16 * j))
    longer = ap length next ∙ length-append (names (32 * k + j)) (name_at blocks (at + 16 * j))

    module _ (buffer₀ buffer : List ℕ) (end : ℕ) (laid : Laid buffer₀ buffer end (32 * k + j)) where
      pub laid-room : (count : ℕ) → 32 * k + j < count → length (place_names blocks records d count) ≤ length buffer₀ → end + length (name_at blocks (at + 16 * j)) ≤ length buffer
      unfolding place_names
      laid-room count l room =
          let i = 32 * k + (j + 1) in
          let e : i + (count - i) ≡ count = omega arith in
          let more : length (place_names blocks records d i) ≤ length (place_names blocks records d count) = rw e at (rows_more (λ i. name_at blocks (record_place records d i)) i (count - i)) in
          omega (arith, longer, more, laid.0, laid.1)

      pub laid-next : (after : List ℕ) (r : ℕ) → length after ≡ length buffer → r ≡ end + length (name_at blocks (at + 16 * j)) → after ≡ sets buffer end (name_at blocks (at + 16 * j))
          → Laid buffer₀ after r (32 * k + (j + 1))
      laid-next after r size ends e = (
        size ∙ laid.0,
        omega (arith, longer, laid.1),
        rw next (then_sets (names (32 * k + j)) (name_at blocks (at + 16 * j)) buffer₀ buffer after 0 end (omega (arith, laid.1)) laid.2 e),
      )
