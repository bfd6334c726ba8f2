-- What names stand for where one record of one directory changes; where no directory changes; and how deep a directory lies.
use Rattle.std.specs.Prelude.{ℕ, ◌<◌, ◌≡◌, ◌≢◌, Bool, true, false, length}
use Rattle.std.proofs.Math.Path.{refl, ap}
use Rattle.std.proofs.Common.{sym, ◌∙◌, ⊎_elim, true≢false, arith}
use mathlib.Core.List.{List, [], ◌∷◌, reverse}
use Rattle.records.specs.Tests.{same_or_not, not_so}
use Rattle.meaning.specs.Name.{entry_in, record_count, is_blank, entry_at, record_named, in_directory, with_entry}
use Rattle.meaning.specs.Store.{Store, is_directory, within, named_back, named, front, last}
use Rattle.meaning.specs.NameCalls.{parent}
use Rattle.lookup.specs.Walk.{named-last}
use Rattle.soundness.specs.Use.{directory_used}
use Rattle.soundness.specs.WellFacts.{blank_file}
use Rattle.trees.specs.Records.{named_has, in_found, in_some, in_own, in_kept, in_gone}
use Rattle.trees.specs.Rewrite.{Rewriting, with_record, own_bytes, other-file, directory-same}
use Rattle.trees.specs.Lookups.{KeepsDirectories}

-- ---- a name in a directory

-- what names something that is there is a directory
pub within-directory : (s : Store) (d : ℕ) (name : List ℕ) → within s d name ≢ 0 → is_directory s d ≡ true
unfolding within
within-directory s d name there = go (is_directory s d) refl
  where
    go : (t : Bool) → is_directory s d ≡ t → t ≡ true
    go true e = refl
    go false e = absurd (there (rw e))

pub within_is : (s : Store) (d : ℕ) (name : List ℕ) → is_directory s d ≡ true → within s d name ≡ in_directory (s.file d).bytes name
unfolding within
within_is s d name is = rw is

pub within_none : (s : Store) (d : ℕ) (name : List ℕ) → is_directory s d ≡ false → within s d name ≡ 0
unfolding within
within_none s d name isnt = rw isnt

-- ---- two stores with the same directories

module _ (s s' : Store) (dirs : (d : ℕ) → is_directory s' d ≡ is_directory s d) (bytes : (d : ℕ) → is_directory s d ≡ true → (s'.file d).bytes ≡ (s.file d).bytes) where
  within_cong : (d : ℕ) (name : List ℕ) → within s' d name ≡ within s d name
  within_cong d name = go (is_directory s d) refl
    where
      go : (t : Bool) → is_directory s d ≡ t → within s' d name ≡ within s d name
      go true e = within_is s' d name (dirs d ∙ e) ∙ ap (λ (l : List ℕ). in_directory l name) (bytes d e) ∙ sym (within_is s d name e)
      go false e = within_none s' d name (dirs d ∙ e) ∙ sym (within_none s d name e)

  back_cong : (back : List (List ℕ)) → named_back s' back ≡ named_back s back
  unfolding named_back
  back_cong [] = refl
  back_cong (last ∷ front) = within_cong (named_back s' front) last ∙ ap (λ (d : ℕ). within s d last) (back_cong front)

  pub named_cong : (name : List (List ℕ)) → named s' name ≡ named s name
  unfolding named
  named_cong name = back_cong (reverse name)

-- ---- one record changes

module _ (s : Store) (d i : ℕ) (r : List ℕ) (k : KeepsDirectories s d i r) where
  abbrev dir : List ℕ
  dir = (s.file d).bytes

  abbrev s' : Store
  s' = with_record s d i r

  w : Rewriting s d i r
  w = k.rewriting

  within-other : (e : ℕ) (name : List ℕ) → e ≢ d → within s' e name ≡ within s e name
  unfolding within
  within-other e name n = rw (directory-same s d i r w e, other-file s d i r w e n)

  within_own : (name : List ℕ) → within s' d name ≡ in_directory (with_entry dir i r) name
  within_own name =
      within_is s' d name (directory-same s d i r w d ∙ w.directory) ∙ ap (λ (l : List ℕ). in_directory l name) (own_bytes s d i r w)

  -- a directory of d is found there as before
  own_kept : (name : List ℕ) → is_directory s (in_directory dir name) ≡ true → in_directory (with_entry dir i r) name ≡ in_directory dir name
  own_kept name is =
      let j = record_named dir name in
      let u = directory_used s (in_directory dir name) is in
      let found : j < record_count dir = in_some dir name (λ z. omega (arith, u.some)) in
      let at : in_directory dir name ≡ (entry_at dir j).file = in_found dir name found in
      let other : j ≢ i = λ (e : j ≡ i). true≢false (sym is ∙ ap (is_directory s) (at ∙ ap (λ (m : ℕ). (entry_at dir m).file) e) ∙ k.old) in
      let used : is_blank dir j ≡ false = not_so (is_blank dir j) (λ b. omega (arith, u.some, blank_file dir j b)) in
      in_kept dir r (record_count dir) i w.whole w.size w.within name found other (λ e. k.fresh j found other used (named_has dir name found ∙ sym e))

  within_same : (e : ℕ) (name : List ℕ) → is_directory s (within s e name) ≡ true → within s' e name ≡ within s e name
  within_same e name is =
      let u = directory_used s (within s e name) is in
      let e-is : is_directory s e ≡ true = within-directory s e name (λ z. omega (arith, u.some)) in
      ⊎_elim
      (λ (q : e ≡ d).
      let at : within s d name ≡ in_directory dir name = within_is s d name w.directory in
      rw q (within_own name ∙ own_kept name (rw (q, at) at is) ∙ sym at))
      (λ (n : e ≢ d). within-other e name n)
      (same_or_not e d)

  back_same : (back : List (List ℕ)) → is_directory s (named_back s back) ≡ true → named_back s' back ≡ named_back s back
  unfolding named_back
  back_same [] is = refl
  back_same (last ∷ front) is =
      let u = directory_used s (within s (named_back s front) last) is in
      let before = back_same front (within-directory s (named_back s front) last (λ z. omega (arith, u.some))) in
      ap (λ (e : ℕ). within s' e last) before ∙ within_same (named_back s front) last is

  -- every directory keeps its name
  pub named-same : (name : List (List ℕ)) → is_directory s (named s name) ≡ true → named s' name ≡ named s name
  unfolding named
  named-same name is = back_same (reverse name) is

  pub parent-same : (name : List (List ℕ)) → is_directory s (parent s name) ≡ true → parent s' name ≡ parent s name
  unfolding parent
  parent-same name is = named-same (front name) is

  -- ---- a name whose directory is there

  module _ (name : List (List ℕ)) (some : 0 < length name) (is : is_directory s (parent s name) ≡ true) where
    in_parent : named s' name ≡ within s' (parent s name) (last name)
    unfolding parent
    in_parent = named-last s' name some ∙ ap (λ (e : ℕ). within s' e (last name)) (parent-same name is)

    was_in_parent : named s name ≡ within s (parent s name) (last name)
    unfolding parent
    was_in_parent = named-last s name some

    -- in another directory
    pub named_elsewhere : parent s name ≢ d → named s' name ≡ named s name
    named_elsewhere n = in_parent ∙ within-other (parent s name) (last name) n ∙ sym was_in_parent

    module _ (here : parent s name ≡ d) where
      in_own_directory : named s' name ≡ in_directory (with_entry dir i r) (last name)
      in_own_directory = in_parent ∙ ap (λ (e : ℕ). within s' e (last name)) here ∙ within_own (last name)

      -- the name of the record that is written
      pub named_own_record : ((j : ℕ) → j < i → (entry_at dir j).name ≢ (entry_in r).name) → last name ≡ (entry_in r).name → named s' name ≡ (entry_in r).file
      named_own_record first e =
          in_own_directory ∙ ap (λ (l : List ℕ). in_directory (with_entry dir i r) l) e ∙ in_own dir r (record_count dir) i w.whole w.size w.within first

      -- the name of another record
      pub named-other_record : record_named dir (last name) < record_count dir → record_named dir (last name) ≢ i → (entry_in r).name ≢ last name → named s' name ≡ named s name
      named-other_record found other not =
          in_own_directory
          ∙ in_kept dir r (record_count dir) i w.whole w.size w.within (last name) found other not
          ∙ sym (was_in_parent ∙ ap (λ (e : ℕ). within s e (last name)) here ∙ within_is s d (last name) w.directory)

      -- a name that no record has any more
      pub named_no_record : ((j : ℕ) → j < record_count dir → j ≢ i → (entry_at dir j).name ≢ last name) → (entry_in r).name ≢ last name → named s' name ≡ 0
      named_no_record others not = in_own_directory ∙ in_gone dir r (record_count dir) i w.whole w.size w.within (last name) others not
