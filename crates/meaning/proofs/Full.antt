-- A directory of 2,048 records, none of them blank, takes no new name: a record more would pass 32,768 bytes, so that
-- create, make directory, link and move give TooBig.
use Prim.Native.Nat.{ℕ, ◌+◌, ◌*◌, ◌/◌, ◌<◌, max}
use Rattle.std.specs.Prelude.{◌≡◌, ◌≢◌, List, true, false}
use Rattle.std.proofs.Math.Option.{some}
use Rattle.std.proofs.Common.{arith}
use Rattle.std.proofs.Math.ListN.{length}
use borrow.Author.Tests.{eqb-true, ne_eqb, lt-ltb}
use Rattle.records.specs.Numbers.{two_bytes}
use Rattle.records.specs.RowLaws.{lowest_is}
use Rattle.meaning.specs.File.{writeFILE, longest}
use Rattle.meaning.proofs.FileLaws.{length-write}
use Rattle.meaning.specs.Name.{syllables, most_syllables, written, entry, is_blank, record_for_new, with_entry}
use Rattle.meaning.specs.Store.{Store, in_use, is_directory, named, last}
use Rattle.meaning.specs.Result.{Result, refused, unless, with_syllables, missing, nowhere, all_open, all_used, if_fits}
use Rattle.meaning.specs.NameCalls.{parent, rewritten, record_for, naming, if_naming_fits, create, link, and_then, move, mkdir}
use Rattle.meaning.specs.declared.Report.TheVariants.{TooBig}

pub record Full (dir : List ℕ) : Type 0 where
  pub long : length dir ≡ longest
  pub taken : (i : ℕ) → i < 2048 → is_blank dir i ≡ false

next_record : (dir : List ℕ) → Full dir → record_for_new dir ≡ 2048
unfolding record_for_new
next_record dir full =
    let count : length dir / 16 ≡ 2048 = omega (arith, full.long) in
    rw count (lowest_is 2048 (λ i. is_blank dir i) 2048 (omega arith) full.taken (λ l. absurd (omega arith)))

some_bytes : (f : ℕ) (name : List ℕ) → 0 < length (written (entry f name))
unfolding written two_bytes
some_bytes f name = omega arith

module _ (s : Store) (bytes : List ℕ) (name : List (List ℕ)) (read : syllables bytes ≡ some name) (new : missing s name ≡ true)
    (there : is_directory s (parent s name) ≡ true) (full : Full (s.file (parent s name)).bytes) where
  abbrev dir : List ℕ
  dir = (s.file (parent s name)).bytes

  -- whatever file the name is to stand for
  too_big : (f : ℕ) (r : Result) → if_naming_fits s name (naming s name f) r ≡ refused TooBig
  unfolding if_naming_fits if_fits unless naming rewritten record_for with_entry
  too_big f r =
      let place : record_for s name ≡ 2048 = rw new (next_record dir full) in
      let long : length (writeFILE dir (16 * record_for s name) (written (entry f (last name)))) ≡ max (length dir) (16 * record_for s name + length (written (entry f (last name)))) =
      length-write dir (16 * record_for s name) (written (entry f (last name))) in
      rw (lt-ltb longest (length (writeFILE dir (16 * record_for s name) (written (entry f (last name))))) (omega (arith, some_bytes f (last name))))

  stands_for_none : named s name ≡ 0
  unfolding missing
  stands_for_none = eqb-true (named s name) 0 new

  no_directory : is_directory s (named s name) ≡ false
  unfolding is_directory in_use
  no_directory = rw stands_for_none

  here : nowhere s name ≡ false
  unfolding nowhere parent
  here = rw (new, there)

  pub create_full : all_open s ≡ false → all_used s ≡ false → create bytes s ≡ refused TooBig
  unfolding create with_syllables unless
  create_full channel number = rw (read, here, no_directory, channel, new, number) (too_big _ _)

  pub mkdir_full : length name ≢ most_syllables → all_used s ≡ false → mkdir bytes s ≡ refused TooBig
  unfolding mkdir with_syllables unless
  mkdir_full few number = rw (read, ne_eqb (length name) most_syllables few, here, new, number) (too_big _ _)

  module _ (old : List ℕ) (from : List (List ℕ)) (read-old : syllables old ≡ some from) (exists : missing s from ≡ false)
      (plain : is_directory s (named s from) ≡ false) where
    pub link_full : link old bytes s ≡ refused TooBig
    unfolding link with_syllables unless
    link_full = rw (read-old, read, exists, plain, here, no_directory) (too_big _ _)

    pub move_full : move old bytes s ≡ refused TooBig
    unfolding move and_then
    move_full = rw link_full
