-- A directory's file record as the code reads it, and the row of its blocks.
use Rattle.std.specs.Prelude.{ℕ, ◌-◌, ◌/◌, ◌≤◌, ◌<◌, ◌≡◌, List, [], eqb}
use Rattle.std.proofs.Common.{sym, ap, ◌∙◌, arith}
use Rattle.meaning.specs.File.{needed}
use Rattle.meaning.specs.Store.{is_directory}
use Rattle.meaning.specs.Tables.{tables, file_count, file_length}
use Rattle.tables.specs.Read.{FileRead}
use Rattle.tables.specs.StoreLaws.{file-length, store_kind, store_depth}
use Rattle.tables.specs.declared.FileRecord.{FileRecord}
use Rattle.soundness.specs.Slots.{directories_store, Findable, Starts, Placed, Within, within_placed}
use Rattle.soundness.specs.DirectoryRules.{kind-directory}

module _ (blocks records files : List ℕ) (placed : Placed blocks records files) (f : ℕ) (there : (0 < f) × (f ≤ file_count files))
    (x : FileRecord) (read : FileRead files (f - 1) x) where
  pub kind-read : is_directory (directories_store blocks records files) f ≡ eqb x.kind 2
  kind-read =
      kind-directory blocks records files f there.0 there.1
      ∙ ap (λ k. eqb k 2) (store_kind (tables blocks records files []) f there.0 ∙ sym read.kind)

  pub depth-read : ((directories_store blocks records files).file f).depth ≡ x.depth
  depth-read = store_depth (tables blocks records files []) f there.0 ∙ sym read.depth

  pub size-read : file_length files f ≡ x.length
  size-read = file-length files f there.0 ∙ sym read.length

  module _ (n : ℕ) (n-is : n ≡ needed x.length) where
    pub findable : Findable records f n
    findable =
        record {
          few = omega (arith, size-read, placed.short f there.1);
          few-blocks = placed.few-blocks;
          there = λ p (h : p < n). placed.there f p (omega (arith, size-read));
        }

    module _ (starts : List ℕ) (found : Starts records f n starts) where
      pub starts_read : Starts records f (needed (file_length files f)) starts
      starts_read = rw (size-read, ← n-is) found

      pub within-read : Within blocks starts (x.length / 16)
      within-read = rw (← size-read) (within_placed blocks records files placed f there.1 starts starts_read)
