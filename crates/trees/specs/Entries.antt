-- The records of one directory of a well-formed store: a blank one has no name, a name has at most one record.
use Rattle.std.specs.Prelude.{ℕ, ◌+◌, ◌*◌, ◌≤◌, ◌<◌, ◌≡◌, ◌≢◌, List, [], true, false, length, take, drop, eqb}
use Rattle.std.proofs.Common.{ap, sym, ◌∙◌, ⊎_elim, true≢false, arith, eq-eqb}
use Rattle.records.specs.Numbers.{one, zeros}
use Rattle.records.specs.NumberLaws.{zeros_zero, zero_zeros}
use Rattle.records.specs.Tests.{and_left, lt_or_ge, not_so}
use Rattle.records.specs.RowLaws.{lowest_is}
use Rattle.meaning.proofs.FileLaws.{byte_past}
use Rattle.meaning.specs.Name.{is_syllable, is_written, name_end, entry_in, record_count, record_at, is_blank, entry_at, record_named, in_directory}
use Rattle.meaning.specs.Store.{Store, is_directory}
use Rattle.names.specs.SameLaws.{is_same}
use Rattle.names.specs.SyllableTests.{syllable_some}
use Rattle.directories.specs.EntryLaws.{byte_record}
use Rattle.soundness.specs.Use.{used}
use Rattle.soundness.specs.Well.{NamingRecord, Well}
use Rattle.soundness.specs.WellFacts.{naming_record}
use Rattle.trees.specs.Records.{named_has, in_found}

-- a blank record has no name
pub blank_name : (dir : List ℕ) (i : ℕ) → is_blank dir i ≡ true → (entry_at dir i).name ≡ []
unfolding is_blank entry_at entry_in name_end one
blank_name dir i b =
    let z : one (record_at dir i) 2 ≡ 0 = byte_record dir i 2 (omega arith) ∙ zeros_zero dir (16 * i) 16 b 2 (omega arith) in
    let none : name_end (record_at dir i) ≡ 0 =
    lowest_is 14 (λ j. eqb (one (record_at dir i) (2 + j)) 0) 0 (omega arith) (λ j h. absurd (omega arith)) (λ h. eq-eqb (one (record_at dir i) 2) 0 z) in
    ap (λ (n : ℕ). take n (drop 2 (record_at dir i))) none

-- what lies past the end reads as blank
pub past_blank : (dir : List ℕ) (i : ℕ) → length dir ≤ 16 * i → is_blank dir i ≡ true
unfolding is_blank
past_blank dir i h = zero_zeros dir (16 * i) 16 (λ k l. byte_past dir (16 * i + k) (omega arith))

-- a syllable is not empty
pub not_empty : (name : List ℕ) → is_syllable name ≡ true → name ≢ []
not_empty name is e = let some = syllable_some name is in omega (arith, ap length e)

-- so a record with a syllable for a name is not blank
pub not_blank : (dir : List ℕ) (i : ℕ) (name : List ℕ) → is_syllable name ≡ true → (entry_at dir i).name ≡ name → is_blank dir i ≡ false
not_blank dir i name is e = not_so (is_blank dir i) (λ b. not_empty name is (sym e ∙ blank_name dir i b))

-- what is written by the rule has a syllable for a name
pub written_syllable : (r : List ℕ) → is_written r ≡ true → is_syllable (entry_in r).name ≡ true
unfolding is_written
written_syllable r is = and_left (is_syllable (entry_in r).name) (zeros r (2 + name_end r) _) is

pub naming_syllable : (s : Store) (dir : List ℕ) (i : ℕ) → NamingRecord s dir i → is_syllable (entry_at dir i).name ≡ true
unfolding entry_at
naming_syllable s dir i r = written_syllable (record_at dir i) r.written

module _ (s : Store) (w : Well s) (d : ℕ) (is : is_directory s d ≡ true) where
  abbrev dir : List ℕ
  dir = (s.file d).bytes

  -- records i and j have different names, if one of them is not blank
  pub apart : (i j : ℕ) → i < record_count dir → j < record_count dir → i ≢ j → is_blank dir i ≡ false
      → (entry_at dir j).name ≢ (entry_at dir i).name
  apart i j hi hj n b e =
      ⊎_elim
      (λ (l : j < i). true≢false (sym (is_same (name j) (name i) e) ∙ w.distinct d j i is l hi b))
      (λ (l : i ≤ j). true≢false (sym (is_same (name i) (name j) (sym e)) ∙ w.distinct d i j is (omega arith) hj (not_blank dir j (name i) spelled e)))
      (lt_or_ge j i)
    where
      name : ℕ → List ℕ
      name k = (entry_at dir k).name

      spelled : is_syllable (name i) ≡ true
      spelled = naming_syllable s dir i (naming_record s w d i is hi b)

  module _ (name : List ℕ) (spelled : is_syllable name ≡ true) where
    -- no other record has the name that one has
    pub only : (i j : ℕ) → i < record_count dir → j < record_count dir → i ≢ j → (entry_at dir i).name ≡ name
        → (entry_at dir j).name ≢ name
    only i j hi hj n e f = apart i j hi hj n (not_blank dir i name spelled e) (f ∙ sym e)

    -- the record of the name is a naming record
    pub found_record : record_named dir name < record_count dir
        → NamingRecord s dir (record_named dir name)
    found_record h =
        let i = record_named dir name in
        naming_record s w d i is h (not_blank dir i name spelled (named_has dir name h))

    -- so what the name stands for is in use, and a name that stands for nothing has no record
    pub no_record : in_directory dir name ≡ 0 → record_count dir ≤ record_named dir name
    no_record z =
        ⊎_elim
        (λ (h : record_named dir name < record_count dir).
        let u = used s (entry_at dir (record_named dir name)).file (found_record h).is_in_use in
        absurd (omega (arith, u.some, in_found dir name h)))
        (λ h. h)
        (lt_or_ge (record_named dir name) (record_count dir))
