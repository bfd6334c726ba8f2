-- Whether record i of a directory is blank or has a new name, as the code finds out: the record read, and compared with another.
use Rattle.std.specs.Prelude.{ℕ, ◌*◌, ◌<◌, ◌≡◌, refl, List, Bool, true, false, not}
use Rattle.std.proofs.Common.{sym}
use Rattle.records.specs.Rows.{every}
use Rattle.records.specs.LoopLaws.{every_fail}
use Rattle.records.specs.Numbers.{zeros}
use Rattle.meaning.specs.Name.{entry_in, entry_at, is_blank, same}
use Rattle.names.specs.RecordNames.{record_from, entry-at}
use Rattle.soundness.specs.Rules.{new_at, names_at}
use Rattle.soundness.specs.Slots.{slot}

-- record j has another name than record i
unfoldable pub other : List ℕ → List ℕ → ℕ → ℕ → Bool
other blocks starts i j = not (same (entry_at blocks (slot starts j)).name (entry_at blocks (slot starts i)).name)

module _ (blocks starts : List ℕ) (i at : ℕ) (at-is : at ≡ 16 * slot starts i) (flag : Bool) (is : flag ≡ zeros blocks at 16) where
  blankness : is_blank blocks (slot starts i) ≡ flag
  unfolding is_blank
  blankness = rw (← at-is) (sym is)

  pub blank_new : flag ≡ true → true ≡ new_at blocks starts i
  unfolding new_at
  blank_new e = rw (blankness, e)

  module _ (used : flag ≡ false) where
    pub compared_new : every i (other blocks starts i) ≡ true → true ≡ new_at blocks starts i
    unfolding new_at other
    compared_new all = rw (blankness, used) (sym all)

    module _ (j bt : ℕ) (bt-is : bt ≡ 16 * slot starts j) (alike : Bool) (test : alike ≡ same (entry_in (record_from blocks bt)).name (entry_in (record_from blocks at)).name) where
      tested : same (entry_at blocks (slot starts j)).name (entry_at blocks (slot starts i)).name ≡ alike
      tested = rw (entry-at blocks (slot starts j), entry-at blocks (slot starts i), ← bt-is, ← at-is) (sym test)

      pub other_name : alike ≡ false → other blocks starts i j ≡ true
      unfolding other
      other_name e = rw (tested, e)

      pub same_old : j < i → alike ≡ true → false ≡ new_at blocks starts i
      unfolding new_at other
      same_old h e = rw (blankness, used) (sym (every_fail (other blocks starts i) j i h (rw (tested, e))))

pub names_are : (blocks starts : List ℕ) (n : ℕ) → every n (new_at blocks starts) ≡ names_at blocks starts n
unfolding names_at
names_are blocks starts n = refl
