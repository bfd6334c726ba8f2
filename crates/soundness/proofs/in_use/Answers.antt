use Prim.Native.Nat.{ℕ, ◌-◌, ◌/◌, ◌<◌, ◌≤◌}
use mathlib.Core.Path.{◌≡◌, sym, ◌∙◌}
use mathlib.Core.List.{List, []}
use mathlib.Core.Bool.{Bool, true, false, not, ◌&&◌}
use native.Mathlib.Omega.{arith}
use borrow.Author.Tests.{eqb-true, eqb-false, lt-ltb, ltb-true, leb-true}
use lib.ListN.{length}
use lib.Dec.{ltb, leb, eqb}
use Rattle.records.specs.Tests.{and_left, and_right}
use Rattle.meaning.specs.Store.{in_use}
use Rattle.meaning.specs.Tables.{tables, store_of}
use Rattle.tables.specs.Read.{FileRead}
use Rattle.tables.specs.StoreLaws.{store_kind}
use Rattle.tables.specs.declared.FileRecord.{FileRecord}
use Rattle.soundness.specs.Seen.{files_store}
use Rattle.soundness.proofs.in_use.Goals as goal
use Rattle.soundness.proofs.in_use.Goals.{then-not-is_none, else-not-is_none}

module _ (files : List ℕ) (f : ℕ) where
  abbrev numbered : Bool
  numbered = ltb 0 f && leb f (length files / 8)

  module _ (none value : Bool) (is : none ≡ eqb f 0) where
    some : none ≡ false → value ≡ leb f (length files / 8) → value ≡ numbered
    some e v = let d = eqb-false f 0 (sym is ∙ e) in v ∙ rw (lt-ltb 0 f (omega (arith, d)))

    no : none ≡ true → value ≡ not none → value ≡ numbered
    no e v = v ∙ rw (e, eqb-true f 0 (sym is ∙ e))

  module _ (value : Bool) (is : value ≡ numbered) where
    past : value ≡ false → value ≡ in_use (files_store files) f
    unfolding in_use store_of
    past e = e ∙ rw (sym is ∙ e)

    module _ (e : value ≡ true) where
      there : (0 < f) × (f ≤ length files / 8)
      there = (ltb-true 0 f (and_left _ _ (sym is ∙ e)), leb-true f (length files / 8) (and_right (ltb 0 f) _ (sym is ∙ e)))

      read : (x : FileRecord) → FileRead files (f - 1) x → (free : Bool) → free ≡ eqb x.kind 0 → not free ≡ in_use (files_store files) f
      unfolding in_use
      read x its free z =
          let kind : ((files_store files).file f).kind ≡ x.kind = store_kind (tables [] [] files []) f there.0 ∙ sym its.kind in
          rw (z, kind) (unfold store_of in rw (sym is ∙ e))

joined : (c : goal.Else-f-file_records) → c.if-not-is_none.value ≡ numbered c.args.file_records.now c.args.f.0
joined c = elim c.if-not-is_none.branch [ then-not-is_none w ↦ search some | else-not-is_none w ↦ search no ]

pub returns-then-f-file_records : goal.returns-then-f-file_records
returns-then-f-file_records c =
    let j : c.if-not-is_none.value ≡ numbered c.args.file_records.now c.args.f.0 =
    elim c.if-not-is_none.branch [ then-not-is_none w ↦ search some | else-not-is_none w ↦ search no ] in
    read _ _ _ j c.if-f-file_records.true _ c.file_record.ensures _ c.is.ensures

pub returns-else-f-file_records : goal.returns-else-f-file_records
returns-else-f-file_records c = past _ _ _ (joined c) c.if-f-file_records.false
