-- A directory lies as deep as its name has syllables.
use Rattle.std.specs.Prelude.{ℕ, ◌+◌, ◌<◌, ◌≡◌, true, length}
use Rattle.std.proofs.Common.{◌∙◌, arith}
use mathlib.Core.List.{List, [], ◌∷◌, reverse}
use Rattle.std.proofs.Math.ListN.{length-reverse}
use Rattle.meaning.specs.Name.{record_count, entry_at, record_named}
use Rattle.meaning.specs.Store.{Store, is_directory, within, named_back, named}
use Rattle.soundness.specs.Use.{directory_used}
use Rattle.soundness.specs.Well.{Well}
use Rattle.soundness.specs.WellFacts.{root-depth}
use Rattle.trees.specs.Records.{in_found, in_some}
use Rattle.trees.proofs.Lookups.{within-directory, within_is}

module _ (s : Store) (w : Well s) where
  -- what a directory names, if it is a directory, is one deeper
  one_deeper_lem : (d : ℕ) (name : List ℕ) → is_directory s (within s d name) ≡ true → (s.file (within s d name)).depth ≡ (s.file d).depth + 1
  one_deeper_lem d name is =
      let dir = (s.file d).bytes in
      let u = directory_used s (within s d name) is in
      let d-is = within-directory s d name (λ z. omega (arith, u.some)) in
      let found : record_named dir name < record_count dir = in_some dir name (λ z. omega (arith, u.some, within_is s d name d-is)) in
      let at : within s d name ≡ (entry_at dir (record_named dir name)).file = within_is s d name d-is ∙ in_found dir name found in
      rw at (w.deeper d (record_named dir name) d-is found (rw at at is))

  back_depth : (back : List (List ℕ)) → is_directory s (named_back s back) ≡ true → (s.file (named_back s back)).depth ≡ length back
  unfolding named_back
  back_depth [] is = let u = directory_used s 1 is in root-depth s w (omega (arith, u.within))
  back_depth (last ∷ front) is =
      let u = directory_used s (within s (named_back s front) last) is in
      let before = back_depth front (within-directory s (named_back s front) last (λ z. omega (arith, u.some))) in
      omega (arith, one_deeper_lem (named_back s front) last is)

  pub named-depth : (name : List (List ℕ)) → is_directory s (named s name) ≡ true → (s.file (named s name)).depth ≡ length name
  unfolding named
  named-depth name is = back_depth (reverse name) is ∙ length-reverse name
