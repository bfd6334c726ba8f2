-- The record of a name in a directory of which one record is written anew or added.
use Rattle.std.specs.Prelude.{ℕ, ◌*◌, ◌≤◌, ◌<◌, ◌≡◌, ◌≢◌, List, false, not, length}
use Rattle.std.proofs.Common.{ap, sym, ◌∙◌, ⊎_elim, true≢false, arith, lt-ltb, le-ltb}
use Rattle.records.specs.RowLaws.{lowest_hit, lowest_misses, lowest_is}
use Rattle.records.specs.Tests.{same_or_not, lt_or_ge}
use Rattle.meaning.specs.Name.{Entry, same, entry_in, record_count, entry_at, record_named, in_directory, with_entry}
use Rattle.names.specs.SameLaws.{same_is, is_same, not_same}
use Rattle.directories.specs.EntryLaws.{count_with, entry-same, entry_other}

-- ---- the record that has a name

module _ (dir name : List ℕ) where
  pub named_has : record_named dir name < record_count dir → (entry_at dir (record_named dir name)).name ≡ name
  unfolding record_named
  named_has h =
      same_is (entry_at dir (record_named dir name)).name name (lowest_hit (record_count dir) (λ i. same (entry_at dir i).name name) h)

  -- no record before it has the name
  pub named-first : (j : ℕ) → j < record_named dir name → same (entry_at dir j).name name ≡ false
  unfolding record_named
  named-first j h = lowest_misses (record_count dir) (λ i. same (entry_at dir i).name name) j h

  -- the one record that has it
  pub named_is : (i : ℕ) → i ≤ record_count dir → ((j : ℕ) → j < i → (entry_at dir j).name ≢ name) → (i < record_count dir → (entry_at dir i).name ≡ name)
      → record_named dir name ≡ i
  unfolding record_named
  named_is i within others has =
      lowest_is (record_count dir) (λ j. same (entry_at dir j).name name) i within
      (λ j h. not_same (entry_at dir j).name name (others j h))
      (λ h. is_same (entry_at dir i).name name (has h))

  -- what the name stands for there
  pub in_found : record_named dir name < record_count dir → in_directory dir name ≡ (entry_at dir (record_named dir name)).file
  unfolding in_directory
  in_found h = rw (lt-ltb (record_named dir name) (record_count dir) h)

  pub in_none : record_count dir ≤ record_named dir name → in_directory dir name ≡ 0
  unfolding in_directory
  in_none h = rw (le-ltb (record_named dir name) (record_count dir) h)

  -- a name that stands for something has a record
  pub in_some : in_directory dir name ≢ 0 → record_named dir name < record_count dir
  in_some some = ⊎_elim (λ h. h) (λ h. absurd (some (in_none h))) (lt_or_ge (record_named dir name) (record_count dir))

-- ---- record i written anew or added

module _ (dir r : List ℕ) (n i : ℕ) (whole : length dir ≡ 16 * n) (size : length r ≡ 16) (within : i ≤ n) where
  count : record_count dir ≡ n
  count = omega arith

  -- another record with the name stays the record of the name, if the one written has another name
  pub named_kept : (name : List ℕ) → record_named dir name < n → record_named dir name ≢ i → (entry_in r).name ≢ name
      → record_named (with_entry dir i r) name ≡ record_named dir name
  named_kept name found other not =
      let j = record_named dir name in
      let more = count_with dir r n i whole size within in
      named_is (with_entry dir i r) name j (omega arith)
      (λ k (h : k < j) (e : (entry_at (with_entry dir i r) k).name ≡ name). ⊎_elim
      (λ (s : k ≡ i). not (sym (ap (λ (x : Entry). x.name) (entry-same dir r n i whole size within)) ∙ ap (λ (m : ℕ). (entry_at (with_entry dir i r) m).name) (sym s) ∙ e))
      (λ (d : k ≢ i). absurd (differs k h (sym (ap (λ (x : Entry). x.name) (entry_other dir r n i whole size within k d)) ∙ e)))
      (same_or_not k i))
      (λ h. ap (λ (x : Entry). x.name) (entry_other dir r n i whole size within j other) ∙ named_has dir name (omega (arith, count)))
    where
      differs : (k : ℕ) → k < record_named dir name → (entry_at dir k).name ≢ name
      differs k h e = true≢false (sym (is_same (entry_at dir k).name name e) ∙ named-first dir name k h)

  -- the record written has the name that it was given, if no other has it
  pub named_own : ((j : ℕ) → j < i → (entry_at dir j).name ≢ (entry_in r).name) → record_named (with_entry dir i r) (entry_in r).name ≡ i
  named_own fresh =
      let more = count_with dir r n i whole size within in
      named_is (with_entry dir i r) (entry_in r).name i (omega arith)
      (λ j (h : j < i) e. fresh j h (sym (ap (λ (x : Entry). x.name) (entry_other dir r n i whole size within j (omega arith))) ∙ e))
      (λ h. ap (λ (x : Entry). x.name) (entry-same dir r n i whole size within))

  -- ---- what a name stands for there: its own record, another record, none

  pub in_own : ((j : ℕ) → j < i → (entry_at dir j).name ≢ (entry_in r).name) → in_directory (with_entry dir i r) (entry_in r).name ≡ (entry_in r).file
  in_own fresh =
      let at = named_own fresh in
      let there : record_named (with_entry dir i r) (entry_in r).name < record_count (with_entry dir i r) = omega (arith, count_with dir r n i whole size within) in
      in_found (with_entry dir i r) (entry_in r).name there
      ∙ ap (λ (j : ℕ). (entry_at (with_entry dir i r) j).file) at
      ∙ ap (λ (x : Entry). x.file) (entry-same dir r n i whole size within)

  pub in_kept : (name : List ℕ) → record_named dir name < n → record_named dir name ≢ i → (entry_in r).name ≢ name
      → in_directory (with_entry dir i r) name ≡ in_directory dir name
  in_kept name found other not =
      let at = named_kept name found other not in
      let there : record_named (with_entry dir i r) name < record_count (with_entry dir i r) = omega (arith, count_with dir r n i whole size within) in
      in_found (with_entry dir i r) name there
      ∙ ap (λ (j : ℕ). (entry_at (with_entry dir i r) j).file) at
      ∙ ap (λ (x : Entry). x.file) (entry_other dir r n i whole size within (record_named dir name) other)
      ∙ sym (in_found dir name (omega (arith, count)))

  pub in_gone : (name : List ℕ) → ((j : ℕ) → j < n → j ≢ i → (entry_at dir j).name ≢ name) → (entry_in r).name ≢ name → in_directory (with_entry dir i r) name ≡ 0
  in_gone name others not =
      let j = record_named (with_entry dir i r) name in
      let more = count_with dir r n i whole size within in
      ⊎_elim
      (λ (h : j < record_count (with_entry dir i r)).
      let has = named_has (with_entry dir i r) name h in
      ⊎_elim
      (λ (e : j ≡ i). absurd (not (sym (ap (λ (x : Entry). x.name) (entry-same dir r n i whole size within)) ∙ ap (λ (k : ℕ). (entry_at (with_entry dir i r) k).name) (sym e) ∙ has)))
      (λ (d : j ≢ i). absurd (others j (omega arith) d (sym (ap (λ (x : Entry). x.name) (entry_other dir r n i whole size within j d)) ∙ has)))
      (same_or_not j i))
      (λ h. in_none (with_entry dir i r) name h)
      (lt_or_ge j (record_count (with_entry dir i r)))
