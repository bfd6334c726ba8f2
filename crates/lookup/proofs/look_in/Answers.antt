-- What is no directory names nothing; else the record that is found says what the name stands for.
use Rattle.std.specs.Prelude.{ℕ, ◌≡◌, ◌<◌, List, Bool, true, false, not, Option, Some, None, refl, ◌/◌, ◌+◌}
use Rattle.std.proofs.Common.{arith, sym, ap, ◌∙◌}
use borrow.Author.Tests.{not-true, not-false}
use Rattle.meaning.specs.Store.{is_directory, within}
use Rattle.meaning.specs.Tables.{file_length}
use Rattle.meaning.specs.Types.{file_numbered, none-numbered}
use Rattle.records.specs.Rows.{found_below}
use Rattle.tables.specs.Found.{found_index, no_index}
use Rattle.names.specs.RecordNames.{record_from}
use Rattle.meaning.specs.Name.{entry_in}
use Rattle.directories.specs.Places.{record_place}
use Rattle.directories.specs.Find.{Lies, named_at, place_lowest}
use Rattle.soundness.specs.Seen.{files_store}
use Rattle.lookup.specs.Filed.{filed, Shelves}
use Rattle.lookup.specs.LookLaws.{not_there, lies_here, found_within, none_there, entry_lies, one_there}
use Rattle.lookup.proofs.look_in.Goals as goal

module _ (b br fr : List ℕ) (d : ℕ) (syllable : List ℕ) (v : Bool) (tells : v ≡ is_directory (files_store fr) d) where
  nothing : not v ≡ true → None ≡ file_numbered (within (filed b br fr) d syllable)
  nothing e = none-numbered _ (sym (not_there b br fr d (sym tells ∙ not-true v e) syllable))

  module _ (e : not v ≡ false) where
    is : is_directory (files_store fr) d ≡ true
    is = sym tells ∙ not-false v e

    module _ (shelf : Shelves b br fr) (count : ℕ) (counted : count ≡ file_length fr d / 16) (x : Option ℕ) (found : x ≡ found_below count (place_lowest (named_at b syllable) br d count)) where
      unnamed : x ≡ None → None ≡ file_numbered (within (filed b br fr) d syllable)
      unnamed e =
          let i = place_lowest (named_at b syllable) br d count in
          let last : i ≡ count = omega (arith, no_index count i x found e, found_within b br fr d shelf is count counted syllable i refl) in
          none-numbered _ (sym (none_there b br fr d shelf is count counted syllable i refl last))

      module _ (i : ℕ) (at : x ≡ Some i) where
        inside : i < count
        inside = omega (arith, found_index count _ x found i at)

        lies : Lies b br d (i + 1)
        lies = entry_lies b br fr d shelf is count counted i inside

        its_file : (f : ℕ) → f ≡ (entry_in (record_from b (record_place br d i))).file → f ≡ within (filed b br fr) d syllable
        its_file f e = one_there b br fr d shelf is count counted syllable i (found_index count _ x found i at).1 inside f e

pub returns-then-not-is_directory : goal.returns-then-not-is_directory
returns-then-not-is_directory c = nothing _ _ _ _ _ _ c.is_directory.ensures (ap not c.if-not-is_directory.true)

pub record_count-count-requires : goal.record_count-count-requires
record_count-count-requires c = is c.args.store.now.blocks.now c.args.store.now.block_records.now _ _ c.args.syllable.now _ c.is_directory.ensures (ap not c.if-not-is_directory.false)

pub find_named-requires : goal.find_named-requires
find_named-requires c = lies_here _ _ _ _ c.requires (is c.args.store.now.blocks.now c.args.store.now.block_records.now _ _ c.args.syllable.now _ c.is_directory.ensures (ap not c.if-not-is_directory.false)) _ c.record_count-count.ensures

pub returns-in_err-i : goal.returns-in_err-i
returns-in_err-i c =
    c.from_residual.ensures
    ∙ unnamed _ _ _ _ _ _ c.is_directory.ensures (ap not c.if-not-is_directory.false) c.requires _ c.record_count-count.ensures _ c.find_named.ensures c.in_err-i.was

pub entry_file-requires : goal.entry_file-requires
entry_file-requires c =
    lies _ _ _ _ c.args.syllable.now _ c.is_directory.ensures (ap not c.if-not-is_directory.false) c.requires _ c.record_count-count.ensures _ c.find_named.ensures _ c.in_ok-i.was

pub returns : goal.returns
returns c =
    c.or_none.ensures
    ∙ ap file_numbered (its_file _ _ _ _ _ _ c.is_directory.ensures (ap not c.if-not-is_directory.false) c.requires _ c.record_count-count.ensures _ c.find_named.ensures _ c.in_ok-i.was _ c.entry_file.ensures)
