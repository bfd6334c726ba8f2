use Prim.Native.Nat.{ℕ}
use mathlib.Core.Path.{◌≡◌, refl, sym, ap, ◌∙◌}
use mathlib.Core.List.{List}
use mathlib.Core.Bool.{Bool, true, false, not, ◌&&◌, ◌||◌, or-false}
use borrow.Author.Tests.{eqb-true}
use lib.Dec.{ltb, eqb}
use Rattle.meaning.specs.File.{needed}
use Rattle.meaning.specs.Store.{in_use}
use Rattle.meaning.specs.Tables.{owner, holds, file_length}
use Rattle.meaning.specs.Sound.{block_sound}
use Rattle.tables.specs.Read.{BlockRead}
use Rattle.tables.specs.declared.BlockRecord.{BlockRecord}
use Rattle.soundness.specs.Use.{none_unused}
use Rattle.soundness.specs.Seen.{files_store, record_tables, in_use-seen, used_there}
use Rattle.soundness.specs.Together.{met, unmet}
use borrow.Author.Rules.{rules}
use Rattle.soundness.proofs.forms.block_sound.Goals as goal

module _ (records files : List ℕ) (b : ℕ) (x : BlockRecord) (read : BlockRead records b x) (none : Bool) (z : none ≡ eqb x.owner.0 0) where
  abbrev verdict : Bool
  verdict = block_sound (record_tables records files) b

  abbrev f : ℕ
  f = x.owner.0

  -- the rule, of the record that was read
  in_numbers : verdict ≡ (eqb f 0 && eqb x.place 0) || (in_use (files_store files) f && ltb x.place (needed (file_length files f)))
  unfolding block_sound holds
  in_numbers = rw (in_use-seen (record_tables records files) (owner records b), ← read.owner, ← read.place)

  free : none ≡ true → (value : Bool) → value ≡ eqb x.place 0 → value ≡ verdict
  free n value v = v ∙ sym (in_numbers ∙ rw (eqb-true f 0 (sym z ∙ n), none_unused (files_store files)) (or-false (eqb x.place 0)))

  module _ (some : none ≡ false) where
    of_file : (value : Bool) → value ≡ in_use (files_store files) f && ltb x.place (needed (file_length files f)) → value ≡ verdict
    of_file value v = v ∙ sym (in_numbers ∙ rw (sym z ∙ some))

pub returns-then-is_none : goal.returns-then-is_none
returns-then-is_none c = search free

pub places_of-requires : goal.places_of-requires
places_of-requires c = used_there _ _ _ c.in_use.ensures (ap not c.if-in_use.true)

pub returns-then-in_use : goal.returns-then-in_use
returns-then-in_use c = of_file _ _ _ _ c.block_record-record.ensures _ c.is_none.ensures c.if-is_none.false _ (met _ _ _ _ c.in_use.ensures c.if-in_use.true (search rules))

pub returns-else-in_use : goal.returns-else-in_use
returns-else-in_use c = of_file _ _ _ _ c.block_record-record.ensures _ c.is_none.ensures c.if-is_none.false _ (unmet _ _ _ _ c.in_use.ensures c.if-in_use.false refl)
