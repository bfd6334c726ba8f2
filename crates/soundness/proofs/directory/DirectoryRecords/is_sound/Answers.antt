use Prim.Native.Nat.{ℕ, ◌*◌}
use mathlib.Core.Path.{◌≡◌, refl, sym, ap, ◌∙◌}
use mathlib.Core.List.{List}
use mathlib.Core.Bool.{Bool, true, false, not, ◌&&◌, ◌||◌, or-false}
use borrow.Author.Tests.{eqb-true, eqb-false, eq-eqb, ne_eqb}
use lib.Dec.{eqb}
use Rattle.std.proofs.Math.Bool.{and_comm}
use Rattle.records.specs.Numbers.{zeros}
use Rattle.records.specs.Tests.{not_so}
use Rattle.meaning.specs.Name.{entry_in, entry_at, is_blank, is_written}
use Rattle.meaning.specs.Store.{in_use}
use Rattle.meaning.specs.Sound.{record_sound}
use Rattle.names.specs.RecordNames.{record_from, record_at_lem, entry-at}
use Rattle.soundness.specs.Use.{none_unused}
use Rattle.soundness.specs.WellFacts.{blank_file}
use Rattle.soundness.specs.Seen.{files_store}
use Rattle.soundness.specs.Together.{met, unmet}
use Rattle.soundness.proofs.directory.DirectoryRecords.is_sound.Goals as goal
use Rattle.soundness.proofs.directory.DirectoryRecords.is_sound.Goals.{Joined-f-ne1, then-f-ne1, else-f-ne1}

module _ (blocks files : List ℕ) (at f : ℕ) (read : f ≡ (entry_in (record_from blocks at)).file) (none : Bool) (z : none ≡ eqb f 0) (k : ℕ) (at-is : at ≡ 16 * k) where
  abbrev verdict : Bool
  verdict = record_sound (files_store files) blocks k

  named : (entry_at blocks k).file ≡ f
  named = ap (λ e. e.file) (entry-at blocks k) ∙ rw (← at-is) (sym read)

  in_numbers : verdict ≡ is_blank blocks k || (in_use (files_store files) f && not (eqb f 1) && is_written (record_from blocks at))
  unfolding record_sound
  in_numbers = rw (named, record_at_lem blocks k, at-is)

  blank : none ≡ true → (flag : Bool) → flag ≡ zeros blocks at 16 → flag ≡ verdict
  unfolding is_blank
  blank e flag is =
      is ∙ sym (in_numbers ∙ rw (eqb-true f 0 (sym z ∙ e), none_unused (files_store files), at-is) (or-false (zeros blocks (16 * k) 16)))

  naming : none ≡ false → (value : Bool) → value ≡ not (eqb f 1) && in_use (files_store files) f && is_written (record_from blocks at) → value ≡ verdict
  naming e value v =
      let some = eqb-false f 0 (sym z ∙ e) in
      let used : is_blank blocks k ≡ false = not_so (is_blank blocks k) (λ b. some (sym named ∙ blank_file blocks k b)) in
      v ∙ sym (in_numbers ∙ rw used (ap (λ t. t && is_written (record_from blocks at)) (and_comm (in_use (files_store files) f) (not (eqb f 1)))))

so_far : (c : Joined-f-ne1) → c.if-f-ne1.value ≡ not (eqb c.record_file-f.result.0 1) && in_use (files_store c.args.file_records.now) c.record_file-f.result.0
so_far c =
    let f = c.record_file-f.result.0 in
    elim c.if-f-ne1.branch [
      | then-f-ne1 w ↦ met _ _ (not (eqb f 1)) _ refl (ap not (ne_eqb f 1 w.if-f-ne1.true)) (w.value-is ∙ w.in_use.ensures)
      | else-f-ne1 w ↦ unmet _ _ (not (eqb f 1)) _ refl (ap not (eq-eqb f 1 w.if-f-ne1.false)) w.value-is
    ]

pub returns-then-is_none : goal.returns-then-is_none
returns-then-is_none c = blank _ _ _ _ c.record_file-f.ensures _ c.is_none.ensures _ c.start-at.ensures.at c.if-is_none.true _ c.zeros_at.ensures

pub returns-then-in_use : goal.returns-then-in_use
returns-then-in_use c =
    naming _ _ _ _ c.record_file-f.ensures _ c.is_none.ensures _ c.start-at.ensures.at c.if-is_none.false _
    (met _ _ _ _ (so_far (goal.at.returns-then-in_use c).Joined-f-ne1) c.if-in_use.true c.is_written.ensures)

pub returns-else-in_use : goal.returns-else-in_use
returns-else-in_use c =
    naming _ _ _ _ c.record_file-f.ensures _ c.is_none.ensures _ c.start-at.ensures.at c.if-is_none.false _
    (unmet _ _ _ _ (so_far (goal.at.returns-else-in_use c).Joined-f-ne1) c.if-in_use.false refl)
