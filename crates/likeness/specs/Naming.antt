-- The directory that a name lies in, and that directory with a record written anew, are the same for both.
use Rattle.std.specs.Prelude.{ℕ, ◌≡◌, ◌⊎◌, true, false, length}
use Rattle.std.proofs.Math.Path.{refl, ap}
use Rattle.std.proofs.Common.{◌∙◌, ⊎_elim, arith}
use Rattle.std.proofs.Math.Logic.{inl, inr}
use mathlib.Core.List.{List, [], ◌∷◌}
use borrow.Author.Tests.{not-false}
use Rattle.records.specs.Tests.{tested}
use Rattle.meaning.specs.Name.{entry, written, with_entry, blank_record}
use Rattle.meaning.specs.Store.{Store, File, is_directory, named_back, named, front, last, root, directory}
use Rattle.meaning.specs.Result.{Result, missing, nowhere, if_fits}
use Rattle.meaning.specs.NameCalls.{parent, rewritten, record_for, naming, unnaming, if_naming_fits}
use Rattle.trees.specs.Standing.{missing_some, parent-directory}
use Rattle.likeness.specs.Alike.{Listed}
use Rattle.likeness.specs.Same.{SameStore}
use Rattle.likeness.specs.Congruence.{directory-bytes, same_free_blocks, same-named, same-missing}

-- ---- a name's directory, in one store

module _ (s : Store) where
  pub not_nowhere : (name : List (List ℕ)) → missing s name ≡ false → nowhere s name ≡ false
  unfolding nowhere
  not_nowhere name e = rw e

  -- a new name has a directory, and so has one that stands for a file, unless it is the root's
  pub parent_there : (name : List (List ℕ)) → nowhere s name ≡ false → (parent s name ≡ root) ⊎ (is_directory s (parent s name) ≡ true)
  unfolding nowhere parent named named_back
  parent_there [] e = inl refl
  parent_there (x ∷ xs) e = inr (⊎_elim
      (λ (m : missing s (x ∷ xs) ≡ true). not-false (is_directory s (named s (front (x ∷ xs)))) (rw m at e))
      (λ (m : missing s (x ∷ xs) ≡ false). parent-directory s (x ∷ xs) (omega arith) (missing_some s (x ∷ xs) m))
      (tested (missing s (x ∷ xs))))

-- ---- the same in both

module _ (listed : Listed) (s s' : Store) (a : SameStore listed s s') where
  root-bytes : (s.file root).bytes ≡ (s'.file root).bytes
  root-bytes = (a.file root).bytes (rw a.root_unlisted)

  pub same-parent : (name : List (List ℕ)) → parent s name ≡ parent s' name
  unfolding parent
  same-parent name = same-named listed s s' a (front name)

  -- if_fits asks for lengths and free blocks alone
  pub same_fits : (old new : ℕ) (r : Result) → if_fits s old new r ≡ if_fits s' old new r
  unfolding if_fits
  same_fits old new r = rw (same_free_blocks listed s s' a)

  module _ (name : List (List ℕ)) (there : nowhere s name ≡ false) where
    parent-bytes : (s.file (parent s name)).bytes ≡ (s'.file (parent s' name)).bytes
    parent-bytes =
        ⊎_elim
        (λ (e : parent s name ≡ root). rw e root-bytes)
        (λ (is : is_directory s (parent s name) ≡ true). directory-bytes listed s s' a (parent s name) is)
        (parent_there s name there)
        ∙ ap (λ d. (s'.file d).bytes) (same-parent name)

    pub parent-depth : (s.file (parent s name)).depth ≡ (s'.file (parent s' name)).depth
    parent-depth = (a.file (parent s name)).depth ∙ ap (λ d. (s'.file d).depth) (same-parent name)

    same_place : record_for s name ≡ record_for s' name
    unfolding record_for
    same_place = rw (same-missing listed s s' a name, parent-bytes)

    same-rewritten : (r : List ℕ) → rewritten s (parent s name) (record_for s name) r ≡ rewritten s' (parent s' name) (record_for s' name) r
    unfolding rewritten
    same-rewritten r = λ i. directory (parent-depth i) (with_entry (parent-bytes i) (same_place i) r)

    pub same-naming : (f f' : ℕ) → f ≡ f' → naming s name f ≡ naming s' name f'
    unfolding naming
    same-naming f f' e =
        same-rewritten (written (entry f (last name)))
        ∙ ap (λ g. rewritten s' (parent s' name) (record_for s' name) (written (entry g (last name)))) e

    pub same-unnaming : unnaming s name ≡ unnaming s' name
    unfolding unnaming
    same-unnaming = same-rewritten blank_record

    pub same-naming_fits : (dir : File) (r : Result) → if_naming_fits s name dir r ≡ if_naming_fits s' name dir r
    unfolding if_naming_fits
    same-naming_fits dir r = rw parent-bytes (same_fits (length (s'.file (parent s' name)).bytes) (length dir.bytes) r)
