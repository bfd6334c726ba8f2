-- A file without bytes has no places, and nothing of it is laid.
use Prim.Native.Nat.{ℕ, ◌-◌, ◌<◌}
use mathlib.Core.Path.{◌≡◌, sym, ◌∙◌}
use mathlib.Core.List.{List, []}
use native.Mathlib.Omega.{arith}
use Rattle.records.specs.Numbers.{with_record}
use Rattle.meaning.specs.File.{needed}
use Rattle.meaning.specs.Store.{file}
use Rattle.meaning.specs.Tables.{tables, file_length, file_record, released, taken_from, laid, resized, put}
use Rattle.blocks.specs.RunLaws.{laid-whole, laid_run_none}
use Rattle.files.specs.Files.{cleared}
use Rattle.files.specs.PutLaws.{put-tables}
use Rattle.files.proofs.clear_file.Goals as goal

no_places : (records : List ℕ) (f old : ℕ) → resized records f old 0 ≡ released records f 0
unfolding resized taken_from
no_places records f old = let e : needed 0 - needed old ≡ 0 = omega arith in rw e

nothing-laid : (blocks records : List ℕ) (f : ℕ) → laid blocks records f [] ≡ blocks
nothing-laid blocks records f = laid-whole blocks records f [] ∙ laid_run_none blocks records f 0

has_cleared : (records files : List ℕ) (f kind depth : ℕ) → 0 < f → (next next-files : List ℕ) → next ≡ released records f 0
    → next-files ≡ with_record 8 files (f - 1) (file_record kind depth 0) → (blocks channels : List ℕ)
    → tables blocks next next-files channels ≡ put (tables blocks records files channels) (file f (cleared kind depth))
has_cleared records files f kind depth some next next-files is is-files blocks channels =
    let r : resized records f (file_length files f) 0 ≡ next = no_places records f (file_length files f) ∙ sym is in
    let b : laid blocks (resized records f (file_length files f) 0) f [] ≡ blocks = nothing-laid blocks (resized records f (file_length files f) 0) f in
    sym (put-tables (tables blocks records files channels) f (cleared kind depth) some ∙ (λ i. tables (b i) (r i) (sym is-files i) channels))

pub returns : goal.returns
returns c = has_cleared _ _ _ _ _ c.requires.from_one _ _ c.release_from.ensures c.put_file_record.ensures
