-- Each step's needs follow from what the steps before it left.
use Prim.Native.Nat.{ℕ, ◌+◌, ◌-◌, ◌≤◌, max}
use mathlib.Core.Path.{◌≡◌, ◌∙◌}
use mathlib.Core.List.{List}
use lib.ListN.{length}
use Rattle.meaning.specs.File.{needed}
use Rattle.meaning.specs.Tables.{taken_from}
use Rattle.tables.specs.Read.{FileRead}
use Rattle.tables.specs.declared.FileRecord.{FileRecord}
use Rattle.files.specs.Files.{Writable}
use native.Mathlib.Omega.{arith}
use borrow.Author.Rules.{rules}
use Rattle.files.proofs.WriteSteps.{Grown, from_one, to_last, old_near, new_near, gap_housed, data_housed, wrote}
use Rattle.files.proofs.write_file.Goals as goal

-- the places that were counted are the places of the longer file
taken : (blocks records files : List ℕ) (f at : ℕ) (bytes : List ℕ) → Writable blocks records files f at bytes → (x : FileRecord) → FileRead files (f - 1) x
    → (new : ℕ) → new ≡ max x.length (at + length bytes) → (first : ℕ) → first ≡ needed x.length → (all : ℕ) → all ≡ needed new
    → (next : List ℕ) → next ≡ taken_from records f first (all - first) → Grown blocks records files f at bytes x.length new next
taken blocks records files f at bytes can x read new is_new first is_first all is_all next is = record { can = can; is_old = read.length; is_new = is_new; is_next = is ∙ rw (is_all, is_first) }

pub file_record-record-requires : goal.file_record-record-requires
file_record-record-requires c = (search from_one, search to_last)

pub overflow_cast-first : goal.overflow_cast-first
overflow_cast-first c = let near : c.file_record-record.result.length ≤ 65536 = search old_near in omega arith

pub overflow_cast-more : goal.overflow_cast-more
overflow_cast-more c = let near : c.max-new.result ≤ 65536 = search new_near in omega arith

pub take_blocks-requires : goal.take_blocks-requires
take_blocks-requires c = let near : c.max-new.result ≤ 65536 = search new_near in search rules

pub fill_gap-requires : goal.fill_gap-requires
fill_gap-requires c = search (gap_housed _ _ _ _ _ _ _ _ _ (taken _ _ _ _ _ _ c.requires _ c.file_record-record.ensures _ c.max-new.ensures _ c.places-first.ensures _ c.places.ensures _ c.take_blocks.ensures))

pub lay_run-requires : goal.lay_run-requires
lay_run-requires c =
    search (data_housed _ _ _ _ _ _ _ _ _ (taken _ _ _ _ _ _ c.requires _ c.file_record-record.ensures _ c.max-new.ensures _ c.places-first.ensures _ c.places.ensures _ c.take_blocks.ensures))

pub overflow_cast-record : goal.overflow_cast-record
overflow_cast-record c = let near : c.max-new.result ≤ 65536 = search new_near in omega arith

pub put_file_record-requires : goal.put_file_record-requires
put_file_record-requires c = (search from_one, search to_last)

pub returns : goal.returns
returns c =
    let read = c.file_record-record.ensures in
    wrote _ _ _ _ _ _ _ _ _ (taken _ _ _ _ _ _ c.requires _ c.file_record-record.ensures _ c.max-new.ensures _ c.places-first.ensures _ c.places.ensures _ c.take_blocks.ensures) _ c.saturating_sub.ensures _ c.fill_gap.ensures _ c.lay_run.ensures
    _ _ read.kind read.depth _ c.put_file_record.ensures
