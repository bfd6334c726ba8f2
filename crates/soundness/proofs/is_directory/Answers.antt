use Prim.Native.Nat.{ℕ, ◌-◌}
use mathlib.Core.Path.{◌≡◌, refl, sym, ap, ◌∙◌}
use mathlib.Core.List.{List, []}
use mathlib.Core.Bool.{Bool, true, false, not}
use lib.Dec.{eqb}
use Rattle.meaning.specs.Store.{in_use, is_directory}
use Rattle.meaning.specs.Tables.{tables}
use Rattle.tables.specs.Read.{FileRead}
use Rattle.tables.specs.StoreLaws.{store_kind}
use Rattle.tables.specs.declared.FileRecord.{FileRecord}
use Rattle.soundness.specs.Seen.{files_store, used_there}
use Rattle.soundness.specs.Together.{met, unmet}
use Rattle.soundness.proofs.is_directory.Goals as goal

module _ (files : List ℕ) (f : ℕ) (is-used : Bool) (e : is-used ≡ in_use (files_store files) f) where
  unused : is-used ≡ false → is-used ≡ is_directory (files_store files) f
  unfolding is_directory
  unused n = unmet _ _ is-used is-used e n refl

  read : is-used ≡ true → (x : FileRecord) → FileRead files (f - 1) x → (value : Bool) → value ≡ eqb x.kind 2 → value ≡ is_directory (files_store files) f
  unfolding is_directory
  read n x its value v =
      let kind : ((files_store files).file f).kind ≡ x.kind = store_kind (tables [] [] files []) f (used_there files f is-used e (ap not n)).0 ∙ sym its.kind in
      met _ _ is-used value e n (v ∙ ap (λ k. eqb k 2) (sym kind))

pub returns-else-in_use : goal.returns-else-in_use
returns-else-in_use c = search unused

pub file_record-requires : goal.file_record-requires
file_record-requires c = used_there _ _ _ c.in_use.ensures (ap not c.if-in_use.true)

pub returns-then-in_use : goal.returns-then-in_use
returns-then-in_use c = search read
