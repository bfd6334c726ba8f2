use Prim.Native.Nat.{ℕ, ◌-◌, ◌/◌, ◌≤◌, ◌<◌}
use mathlib.Core.Path.{◌≡◌, refl, sym, ◌∙◌}
use mathlib.Core.List.{List}
use mathlib.Core.Bool.{Bool, true, ◌&&◌}
use lib.Dec.{eqb}
use Rattle.meaning.specs.File.{needed}
use Rattle.meaning.specs.Tables.{file_count, file_length}
use Rattle.tables.specs.Read.{FileRead}
use Rattle.tables.specs.declared.FileRecord.{FileRecord}
use Rattle.soundness.specs.Rules.{records_at, names_at, deeper_at}
use Rattle.soundness.specs.Seen.{files_store}
use Rattle.soundness.specs.Slots.{directories_store, Starts, Placed}
use Rattle.soundness.specs.ChainLaws.{padded-sound}
use Rattle.soundness.specs.DirectoryRules.{directory_rule, records_there, names_there, deepers_there}
use Rattle.soundness.specs.DirectoryReads.{kind-read, depth-read, size-read}
use Rattle.soundness.specs.Together.{met, unmet}
use Rattle.soundness.proofs.directory.records_sound.Goals as goal
use Rattle.soundness.proofs.directory.records_sound.Goals.{Joined-all_sound, then-all_sound, else-all_sound}

module _ (blocks records files : List ℕ) (placed : Placed blocks records files) (f : ℕ) (there : (0 < f) × (f ≤ file_count files))
    (x : FileRecord) (read : FileRead files (f - 1) x) (is : eqb x.kind 2 ≡ true)
    (table : List ℕ) (table-is : table ≡ blocks) (starts : List ℕ) (found : Starts records f (needed (file_length files f)) starts)
    (n : ℕ) (n-is : n ≡ file_length files f / 16) where
  of_rules : (value : Bool) → value ≡ records_at (files_store files) table starts n && names_at table starts n && deeper_at (files_store files) table starts x.depth n →
      value ≡ directory_rule (directories_store blocks records files) f
  unfolding directory_rule
  of_rules value v =
      v ∙ rw (
        kind-read blocks records files placed f there x read,
        is,
        records_there blocks records files placed f starts found,
        names_there blocks records files placed f starts found,
        deepers_there blocks records files placed f starts found,
        depth-read blocks records files placed f there x read,
        table-is,
        n-is,
      )

so_far : (c : Joined-all_sound) →
    c.if-all_sound.value
    ≡ records_at (files_store c.args.store.now.file_records.now) c.records_of-records.result.blocks.now c.records_of-records.result.starts.now c.records_of-records.result.count
    && names_at c.records_of-records.result.blocks.now c.records_of-records.result.starts.now c.records_of-records.result.count
so_far c =
    elim c.if-all_sound.branch [
      | then-all_sound w ↦ met _ _ _ _ c.all_sound.ensures w.if-all_sound.true (w.value-is ∙ w.all_new.ensures)
      | else-all_sound w ↦ unmet _ _ _ _ c.all_sound.ensures w.if-all_sound.false w.value-is
    ]

pub starts_of-starts-requires-clause-size_is : goal.starts_of-starts-requires-clause-size_is
starts_of-starts-requires-clause-size_is c = sym (size-read _ _ _ c.requires.placed _ c.requires.f_in_bounds _ c.requires.read_is)

pub records_of-records-requires-clause-size_is : goal.records_of-records-requires-clause-size_is
records_of-records-requires-clause-size_is c = sym (size-read _ _ _ c.requires.placed _ c.requires.f_in_bounds _ c.requires.read_is)

-- records that are sound have zeros behind their names
pub invariant_of-all_new : goal.invariant_of-all_new
invariant_of-all_new c =
    let r = c.records_of-records.result in
    record { padded = padded-sound (files_store c.args.store.now.file_records.now) r.blocks.now r.starts.now r.count r.within (sym c.all_sound.ensures ∙ c.if-all_sound.true) }

pub returns-then-all_new : goal.returns-then-all_new
returns-then-all_new c =
    let p = c.requires in
    let r = c.records_of-records.ensures in
    of_rules _ _ _ p.placed _ p.f_in_bounds _ p.read_is p.kind_is _ r.blocks _ r.starts _ r.count _
    (met _ _ _ _ (so_far (goal.at.returns-then-all_new c).Joined-all_sound) c.if-all_new.true c.all_deeper.ensures)

pub returns-else-all_new : goal.returns-else-all_new
returns-else-all_new c =
    let p = c.requires in
    let r = c.records_of-records.ensures in
    of_rules _ _ _ p.placed _ p.f_in_bounds _ p.read_is p.kind_is _ r.blocks _ r.starts _ r.count _
    (unmet _ _ _ _ (so_far (goal.at.returns-else-all_new c).Joined-all_sound) c.if-all_new.false refl)
