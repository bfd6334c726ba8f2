use Prim.Native.Nat.{ℕ, ◌+◌, ◌-◌}
use mathlib.Core.Path.{◌≡◌, sym, ap, ◌∙◌}
use mathlib.Core.List.{List, []}
use mathlib.Core.Bool.{Bool, true, false, not}
use lib.Dec.{eqb}
use Rattle.meaning.specs.Store.{is_directory}
use Rattle.meaning.specs.Tables.{tables}
use Rattle.tables.specs.Read.{FileRead}
use Rattle.tables.specs.StoreLaws.{store_depth}
use Rattle.tables.specs.declared.FileRecord.{FileRecord}
use Rattle.soundness.specs.Rules.{deeper_than}
use Rattle.soundness.specs.Seen.{files_store, directory_there}
use Rattle.soundness.specs.Together.{asked, unasked}
use Rattle.soundness.proofs.directory.one_deeper.Goals as goal

module _ (files : List ℕ) (depth f : ℕ) (flag : Bool) (is : flag ≡ is_directory (files_store files) f) where
  no_directory : flag ≡ false → (value : Bool) → value ≡ not flag → value ≡ deeper_than (files_store files) depth f
  unfolding deeper_than
  no_directory e value v = unasked _ _ flag value is e v

  directory : flag ≡ true → (x : FileRecord) → FileRead files (f - 1) x → (value : Bool) → value ≡ eqb x.depth (depth + 1) → value ≡ deeper_than (files_store files) depth f
  unfolding deeper_than
  directory e x its value v =
      let its-depth : ((files_store files).file f).depth ≡ x.depth = store_depth (tables [] [] files []) f (directory_there files f flag is (ap not e)).0 ∙ sym its.depth in
      asked _ _ flag value is e (v ∙ ap (λ d. eqb d (depth + 1)) (sym its-depth))

pub returns-then-not-is_directory : goal.returns-then-not-is_directory
returns-then-not-is_directory c = search no_directory

pub file_record-requires : goal.file_record-requires
file_record-requires c = directory_there _ _ _ c.is_directory.ensures (ap not c.if-not-is_directory.false)

pub returns-else-not-is_directory : goal.returns-else-not-is_directory
returns-else-not-is_directory c = search directory
