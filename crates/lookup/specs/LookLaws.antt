-- Looking a syllable up in a directory, step by step.
use Rattle.std.specs.Prelude.{ℕ, ◌+◌, ◌-◌, ◌*◌, ◌/◌, ◌%◌, ◌≤◌, ◌<◌, ◌≡◌, refl, ◌≢◌, List, [], ◌∷◌, true, false, length}
use Rattle.std.proofs.Math.Path.{ap, sym}
use Rattle.std.proofs.Common.{◌∙◌, arith}
use borrow.Author.Tests.{lt-ltb, le-ltb}
use Rattle.records.specs.Rows.{lowest}
use Rattle.records.specs.RowLaws.{lowest_cong, lowest-within}
use Rattle.meaning.specs.Name.{Entry, same, entry_in, entry_at, is_blank, record_count, record_named, record_for_new, in_directory}
use Rattle.meaning.specs.Store.{Store, in_use, is_directory, within}
use Rattle.meaning.specs.Tables.{tables, store_of, block_count, file_count, file_length, length_at, block_of}
use Rattle.layout.specs.Layout.{length-file}
use Rattle.soundness.specs.Use.{directory_used}
use Rattle.soundness.specs.Seen.{files_store}
use Rattle.tables.specs.StoreLaws.{file-length}
use Rattle.names.specs.RecordNames.{record_from}
use Rattle.names.specs.Syllables.{part, syllables_from, Reaches}
use Rattle.names.specs.SyllableLaws.{row_next, reach_inside, reach_next, end_low, end-within}
use Rattle.paths.specs.Taking.{syllable_end, behind}
use Rattle.paths.specs.TakingLaws.{behind-slash}
use Rattle.directories.specs.Places.{record_place, entry_there, blank_there}
use Rattle.directories.specs.Find.{Lies, named_at, blank_at, place_lowest}
use Rattle.directories.specs.FindLaws.{lies_first, run-held, block_inside}
use Rattle.lookup.specs.Walk.{walk}
use Rattle.lookup.specs.Filed.{filed, Shelves, directory_here}

-- a directory has a record among the file records
pub directory_there : (files : List ℕ) (d : ℕ) → is_directory (files_store files) d ≡ true → (0 < d) × (d ≤ file_count files)
unfolding store_of
directory_there files d is = let u = directory_used (files_store files) d is in (u.some, u.within)

-- its count of records, as its file record has it
pub count-read : (files : List ℕ) (d size : ℕ) → 0 < d → size ≡ length_at files (d - 1) → size / 16 ≡ file_length files d / 16
count-read files d size some e = ap (λ (n : ℕ). n / 16) (e ∙ sym (file-length files d some))

module _ (blocks records files : List ℕ) (d : ℕ) where
  count_is : record_count ((filed blocks records files).file d).bytes ≡ file_length files d / 16
  unfolding store_of
  count_is = ap (λ (n : ℕ). n / 16) (length-file (tables blocks records files []) d)

  -- what is no directory has no names
  pub not_there : is_directory (files_store files) d ≡ false → (syllable : List ℕ) → 0 ≡ within (filed blocks records files) d syllable
  unfolding within
  not_there e syllable = rw (directory_here blocks records files d ∙ e)

  module _ (shelf : Shelves blocks records files) (is : is_directory (files_store files) d ≡ true) where
    here : is_directory (filed blocks records files) d ≡ true
    here = directory_here blocks records files d ∙ is

    pub lies_here : (count : ℕ) → count ≡ file_length files d / 16 → Lies blocks records d count
    lies_here count e = rw (e, ← count_is) (shelf.lies d here)

    module _ (count : ℕ) (counted : count ≡ file_length files d / 16) where
      counted_is : record_count ((filed blocks records files).file d).bytes ≡ count
      counted_is = count_is ∙ sym counted

      record_in : (i : ℕ) → i < count → 16 * i + 16 ≤ length ((filed blocks records files).file d).bytes
      record_in i h = omega (arith, shelf.whole d here, counted_is)

      place_in : (i : ℕ) → i < count → record_place records d i + 16 ≤ length blocks
      unfolding record_place
      place_in i h =
          let l = lies_here count counted in
          omega (arith, l.there (i / 32) (omega arith), l.table)

      pub entry_lies : (i : ℕ) → i < count → Lies blocks records d (i + 1)
      entry_lies i h = lies_first blocks records d count (lies_here count counted) (i + 1) (omega arith)

      -- the first blank record
      pub is_blank_lem : (i : ℕ) → i ≡ place_lowest (blank_at blocks) records d count → i ≡ record_for_new ((filed blocks records files).file d).bytes
      unfolding place_lowest blank_at record_for_new
      is_blank_lem i found =
          found
          ∙ lowest_cong count (λ k. blank_at blocks (record_place records d k)) (λ k. is_blank ((filed blocks records files).file d).bytes k)
          (λ k h. sym (blank_there (tables blocks records files []) d k (record_in k h)))
          ∙ ap (λ (n : ℕ). lowest n (λ k. is_blank ((filed blocks records files).file d).bytes k)) (sym counted_is)

      module _ (syllable : List ℕ) (i : ℕ) (found : i ≡ place_lowest (named_at blocks syllable) records d count) where
        pub is_named_lem : i ≡ record_named ((filed blocks records files).file d).bytes syllable
        unfolding place_lowest named_at record_named
        is_named_lem =
            found
            ∙ lowest_cong count (λ k. named_at blocks syllable (record_place records d k)) (λ k. same (entry_at ((filed blocks records files).file d).bytes k).name syllable)
            (λ k h. ap (λ (e : Entry). same e.name syllable) (sym (entry_there (tables blocks records files []) d k (record_in k h) (place_in k h))))
            ∙ ap (λ (n : ℕ). lowest n (λ k. same (entry_at ((filed blocks records files).file d).bytes k).name syllable)) (sym counted_is)

        -- it is a record's, or none
        pub found_within : i ≤ count
        unfolding place_lowest
        found_within = omega (arith, found, lowest-within count (λ k. named_at blocks syllable (record_place records d k)))

        pub none_there : i ≡ count → 0 ≡ within (filed blocks records files) d syllable
        unfolding within in_directory
        none_there e = rw (here, ← is_named_lem, le-ltb i (record_count ((filed blocks records files).file d).bytes) (omega (arith, counted_is)))

        pub one_there : i < count → (f : ℕ) → f ≡ (entry_in (record_from blocks (record_place records d i))).file → f ≡ within (filed blocks records files) d syllable
        unfolding within in_directory
        one_there h f e =
            e ∙ sym (ap (λ (x : Entry). x.file) (entry_there (tables blocks records files []) d i (record_in i h) (place_in i h)))
            ∙ rw (here, ← is_named_lem, lt-ltb i (record_count ((filed blocks records files).file d).bytes) (omega (arith, counted_is)))

-- a record's place, in the block of its run
module _ (blocks records : List ℕ) (d i : ℕ) (lies : Lies blocks records d (i + 1)) where
  pub entry-held : (block_count records ≤ 65536) × (block_of records d (i / 32) < block_count records)
  entry-held = run-held blocks records d (i + 1) (i / 32) lies (omega arith)

  module _ (at : ℕ) (block : at ≡ 512 * block_of records d (i / 32)) where
    pub entry_inside : at + 16 * (i % 32) + 16 ≤ length blocks
    entry_inside = omega (arith, block_inside blocks records d (i + 1) (i / 32) lies at block (omega arith))

    pub entry_is : (f : ℕ) → f ≡ (entry_in (record_from blocks (at + 16 * (i % 32)))).file → f ≡ (entry_in (record_from blocks (record_place records d i))).file
    unfolding record_place
    entry_is f e = rw block at e

-- ---- a walk of n syllables, a step at a time

pub walk_none : (s : Store) (d : ℕ) (name : List ℕ) (at n : ℕ) → n ≡ 0 → d ≡ walk s d (syllables_from name at n)
unfolding walk syllables_from
walk_none s d name at n e = rw e

-- from nowhere it leads nowhere
pub within_none : (s : Store) (syllable : List ℕ) → within s 0 syllable ≡ 0
unfolding within is_directory in_use
within_none s syllable = refl

pub walk_nowhere : (s : Store) (rest : List (List ℕ)) → walk s 0 rest ≡ 0
unfolding walk
walk_nowhere s [] = refl
walk_nowhere s (syllable ∷ rest) = rw (within_none s syllable) (walk_nowhere s rest)

module _ (s : Store) (d : ℕ) (name : List ℕ) (at n end : ℕ) (ended : end ≡ syllable_end name at) (some : n ≢ 0) (f : ℕ) (next : f ≡ within s d (part name at end)) where
  step : walk s d (syllables_from name at n) ≡ walk s f (syllables_from name (end + 1) (n - 1))
  unfolding walk
  step = ap (walk s d) (row_next name at n (omega arith)) ∙ rw (next, ended)

  pub walk-last : n ≡ 1 → f ≡ walk s d (syllables_from name at n)
  walk-last e = walk_none s f name (end + 1) (n - 1) (omega arith) ∙ sym step

  pub walk_off : f ≡ 0 → walk s d (syllables_from name at n) ≡ 0
  walk_off e = step ∙ ap (λ g. walk s g (syllables_from name (end + 1) (n - 1))) e ∙ walk_nowhere s (syllables_from name (end + 1) (n - 1))

  pub walk_on : (after : ℕ) → after ≡ end + 1 → (g : ℕ) → g ≡ walk s f (syllables_from name after (n - 1)) → g ≡ walk s d (syllables_from name at n)
  walk_on after goes g e = e ∙ ap (λ (k : ℕ). walk s f (syllables_from name k (n - 1))) goes ∙ sym step

module _ (name : List ℕ) (at n end : ℕ) (ended : end ≡ syllable_end name at) (some : n ≢ 0) (reaches : Reaches name at n) where
  pub syllable_in : (at ≤ end) × (end ≤ length name)
  syllable_in =
      let inside = reach_inside name at n (omega arith) reaches in
      (rw ended (end_low name at), rw ended (end-within name at inside))

  reaches_on : Reaches name (end + 1) (n - 1)
  reaches_on = rw ended (reach_next name at n (omega arith) reaches)

  -- where another syllable follows, what is left starts behind a slash
  module _ (more : n ≢ 1) (after : ℕ) (left : after ≡ behind name (syllable_end name at)) where
    pub after_is : after ≡ end + 1
    after_is =
        let inside = reach_inside name (end + 1) (n - 1) (omega arith) reaches_on in
        left ∙ ap (behind name) (sym ended) ∙ behind-slash name end (omega arith)

    pub reaches_after : Reaches name after (n - 1)
    reaches_after = rw after_is reaches_on
