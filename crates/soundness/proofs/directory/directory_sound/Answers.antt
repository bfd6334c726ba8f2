use Prim.Native.Nat.{ℕ, ◌-◌, ◌≤◌, ◌<◌}
use mathlib.Core.Path.{◌≡◌, sym, ◌∙◌}
use mathlib.Core.List.{List}
use mathlib.Core.Bool.{not, Bool, false}
use lib.Dec.{eqb}
use Rattle.meaning.specs.Tables.{file_count}
use Rattle.tables.specs.Read.{FileRead}
use Rattle.tables.specs.declared.FileRecord.{FileRecord}
use Rattle.soundness.specs.Slots.{directories_store, Placed}
use Rattle.soundness.specs.DirectoryRules.{directory_rule}
use Rattle.soundness.specs.DirectoryReads.{kind-read}
use Rattle.soundness.proofs.directory.directory_sound.Goals as goal

module _ (blocks records files : List ℕ) (placed : Placed blocks records files) (f : ℕ) (there : (0 < f) × (f ≤ file_count files))
    (x : FileRecord) (read : FileRead files (f - 1) x) (is : Bool) (k : is ≡ eqb x.kind 2) where
  abbrev verdict : Bool
  verdict = directory_rule (directories_store blocks records files) f

  no_directory : is ≡ false → (value : Bool) → value ≡ not is → value ≡ verdict
  unfolding directory_rule
  no_directory e value v = v ∙ rw (e, kind-read blocks records files placed f there x read, sym k ∙ e)

pub records_sound-requires-clause-kind_is : goal.records_sound-requires-clause-kind_is
records_sound-requires-clause-kind_is c = sym c.is.ensures ∙ c.if-not-is.false

pub returns-then-not-is : goal.returns-then-not-is
returns-then-not-is c = search no_directory
