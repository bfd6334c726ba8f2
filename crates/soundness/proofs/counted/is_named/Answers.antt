use Prim.Native.Nat.{ℕ, ◌≤◌, ◌<◌}
use mathlib.Core.Path.{◌≡◌, sym, ◌∙◌}
use mathlib.Core.List.{List, []}
use mathlib.Core.Bool.{Bool, true, false, not, ◌&&◌, ◌||◌, or-true, or-false}
use borrow.Author.Tests.{lt-ltb, le-ltb, eq-eqb, ne_eqb}
use lib.ListN.{get_or}
use lib.Dec.{ltb, eqb}
use Rattle.meaning.specs.Store.{in_use, is_directory}
use Rattle.meaning.specs.Tables.{tables}
use Rattle.tables.specs.Searches.{channels_with}
use Rattle.tables.specs.StoreLaws.{held-channels}
use Rattle.soundness.specs.Rules.{is_named_by, named_by}
use Rattle.soundness.specs.Seen.{files_store, channels_store, in_use-seen, is_directory-seen}
use Rattle.soundness.proofs.counted.is_named.Goals as goal
use Rattle.soundness.proofs.counted.is_named.Goals.{then-f-eq1-via-then-f-eq1, then-f-eq1-via-else-f-eq1+then-not-in_use}

module _ (files channels counts : List ℕ) (f : ℕ) where
  abbrev verdict : Bool
  verdict = named_by (channels_store files channels) counts f

  abbrev count : ℕ
  count = get_or counts f 0

  in_numbers : verdict ≡
      not (in_use (files_store files) f)
      || eqb f 1
      || (is_directory (files_store files) f && eqb count 1)
      || (not (is_directory (files_store files) f) && (ltb 0 count || ltb 0 (channels_with channels f)))
  unfolding named_by is_named_by
  in_numbers =
      rw (in_use-seen (tables [] [] files channels) f, is_directory-seen (tables [] [] files channels) f, held-channels (tables [] [] files channels) f)

  root : f ≡ 1 → true ≡ verdict
  root e = sym (in_numbers ∙ rw (eq-eqb f 1 e, or-true (not (in_use (files_store files) f))))

  module _ (used : Bool) (u : used ≡ in_use (files_store files) f) where
    free : used ≡ false → true ≡ verdict
    free n = sym (in_numbers ∙ rw (sym u ∙ n))

    module _ (other : f ≡ 1 → ⊥) (n : used ≡ true) (directory : Bool) (d : directory ≡ is_directory (files_store files) f) where
      a-directory : directory ≡ true → eqb count 1 ≡ verdict
      a-directory e = sym (in_numbers ∙ rw (sym u ∙ n, ne_eqb f 1 other, sym d ∙ e) (or-false (eqb count 1)))

      module _ (e : directory ≡ false) where
        has_name : 0 < count → ltb 0 count ≡ verdict
        has_name h = lt-ltb 0 count h ∙ sym (in_numbers ∙ rw (sym u ∙ n, ne_eqb f 1 other, sym d ∙ e, lt-ltb 0 count h))

        channel_alone : count ≤ 0 → (is_held_lem : Bool) → is_held_lem ≡ ltb 0 (channels_with channels f) → is_held_lem ≡ verdict
        channel_alone h is_held_lem c = sym (in_numbers ∙ rw (sym u ∙ n, ne_eqb f 1 other, sym d ∙ e, le-ltb 0 count h, ← c))

pub returns-then-f-eq1 : goal.returns-then-f-eq1
returns-then-f-eq1 c =
    elim c.then-f-eq1.branch [
      | then-f-eq1-via-then-f-eq1 w ↦ search root
      | then-f-eq1-via-else-f-eq1+then-not-in_use w ↦ search free
    ]

pub returns-then-is_directory : goal.returns-then-is_directory
returns-then-is_directory c = search a-directory

pub returns-then-count-gt0 : goal.returns-then-count-gt0
returns-then-count-gt0 c = search has_name

pub returns-else-count-gt0 : goal.returns-else-count-gt0
returns-else-count-gt0 c = search channel_alone
