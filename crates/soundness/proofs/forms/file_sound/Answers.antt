use Prim.Native.Nat.{ℕ, ◌-◌, ◌%◌, ◌≤◌, ◌<◌}
use mathlib.Core.Path.{◌≡◌, refl, sym, ap, ◌∙◌}
use mathlib.Core.List.{List, []}
use mathlib.Core.Bool.{Bool, true, false, ◌&&◌, ◌||◌, or-false}
use borrow.Author.Tests.{ne_eqb, eqb-true}
use lib.Dec.{leb, eqb}
use Rattle.records.specs.Rows.{agree}
use Rattle.records.specs.Tests.{and_false}
use Rattle.meaning.specs.File.{longest}
use Rattle.meaning.specs.Tables.{tables, file_count}
use Rattle.meaning.specs.Sound.{as_free, as_ordinary, as_directory, file_sound}
use Rattle.tables.specs.Read.{FileRead}
use Rattle.tables.specs.StoreLaws.{store_kind, store_depth, store_length}
use Rattle.tables.specs.declared.FileRecord.{FileRecord}
use Rattle.soundness.specs.Rules.{directory_form}
use Rattle.soundness.specs.Seen.{files_store}
use Rattle.soundness.proofs.forms.file_sound.Goals as goal
use Rattle.soundness.proofs.forms.file_sound.Goals.{then-f-eq1-via-then-f-eq1, then-f-eq1-via-else-f-eq1+then-record-ne0}

alone : (t : Bool) → (t || false) && true ≡ t
alone true = refl
alone false = refl

module _ (files : List ℕ) (f : ℕ) (there : (0 < f) × (f ≤ file_count files)) (x : FileRecord) (read : FileRead files (f - 1) x) where
  abbrev verdict : Bool
  verdict = file_sound f ((files_store files).file f)

  -- the rule, of the record that was read
  in_numbers : verdict ≡
      ((eqb x.kind 0 && eqb x.depth 0 && eqb x.length 0)
      || (eqb x.kind 1 && eqb x.depth 0 && leb x.length longest)
      || (eqb x.kind 2 && leb x.depth 7 && leb x.length longest && eqb (x.length % 16) 0))
      && agree (eqb f 1) (eqb x.kind 2 && eqb x.depth 0)
  unfolding file_sound as_free as_ordinary as_directory
  in_numbers =
      let t = tables [] [] files [] in
      rw (store_kind t f there.0, store_depth t f there.0, store_length t f there.0, ← read.kind, ← read.depth, ← read.length)

  module _ (is : Bool) (k : is ≡ eqb x.kind 2) where
    a-directory : is ≡ true → (t : Bool) → t ≡ directory_form f x.depth x.length → t ≡ verdict
    unfolding directory_form
    a-directory e t v = let kind = eqb-true x.kind 2 (sym k ∙ e) in v ∙ sym (in_numbers ∙ rw kind)

    module _ (e : is ≡ false) where
      other : eqb x.kind 2 ≡ false
      other = sym k ∙ e

      no_root : f ≡ 1 → false ≡ verdict
      no_root r = sym (in_numbers ∙ rw (r, other, and_false))

      too_deep : (x.depth ≡ 0 → ⊥) → false ≡ verdict
      too_deep z = sym (in_numbers ∙ rw (other, ne_eqb x.depth 0 z, and_false (eqb x.kind 0), and_false (eqb x.kind 1)))

      module _ (below : f ≡ 1 → ⊥) (flat : x.depth ≡ 0) (plain : Bool) (p : plain ≡ eqb x.kind 1) where
        an_ordinary : plain ≡ true → leb x.length 32768 ≡ verdict
        an_ordinary o = let kind = eqb-true x.kind 1 (sym p ∙ o) in sym (in_numbers ∙ rw (kind, flat, ne_eqb f 1 below) (alone (leb x.length 32768)))

        module _ (o : plain ≡ false) (free : Bool) (q : free ≡ eqb x.kind 0) where
          a_free : free ≡ true → eqb x.length 0 ≡ verdict
          a_free z =
              let kind = eqb-true x.kind 0 (sym q ∙ z) in
              sym (in_numbers ∙ rw (kind, flat, ne_eqb f 1 below) (ap (λ t. t && true) (or-false (eqb x.length 0 || false)) ∙ alone (eqb x.length 0)))

          no_kind : free ≡ false → free ≡ verdict
          no_kind z = z ∙ sym (in_numbers ∙ rw (other, sym p ∙ o, sym q ∙ z))

pub returns-then-is : goal.returns-then-is
returns-then-is c = search a-directory

pub returns-then-f-eq1 : goal.returns-then-f-eq1
returns-then-f-eq1 c =
    elim c.then-f-eq1.branch [
      | then-f-eq1-via-then-f-eq1 w ↦ search no_root
      | then-f-eq1-via-else-f-eq1+then-record-ne0 w ↦ search too_deep
    ]

pub returns-then-is-2 : goal.returns-then-is-2
returns-then-is-2 c = search an_ordinary

pub returns-then-is-3 : goal.returns-then-is-3
returns-then-is-3 c = search a_free

pub returns-else-is-3 : goal.returns-else-is-3
returns-else-is-3 c = search no_kind
