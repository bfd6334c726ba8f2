-- A name is taken from its file, or given to one: the shape stays, and every file has the names that it needs
-- but for the one that the name stood for.
use Rattle.std.specs.Prelude.{ℕ, ◌+◌, ◌-◌, ◌*◌, ◌≤◌, ◌<◌, refl, ◌≢◌, List, true, false, length}
use Rattle.std.proofs.Math.Path.{◌≡◌, ap}
use Rattle.std.proofs.Common.{sym, ◌∙◌, ⊎_elim, true≢false, arith}
use Rattle.std.proofs.Math.Option.{some}
use borrow.Author.Tests.{eqb-true}
use Rattle.records.specs.Tests.{tested}
use Rattle.meaning.specs.File.{needed, longest}
use Rattle.meaning.specs.Name.{Entry, entry, is_syllable, syllables, written, entry_in, blank_record, record_count, entry_at, with_entry}
use Rattle.meaning.specs.Store.{Store, root, in_use, is_directory, free_blocks, named, names, last}
use Rattle.meaning.specs.Result.{missing, nowhere}
use Rattle.meaning.specs.NameCalls.{parent, record_for, rewritten, naming, unnaming}
use Rattle.names.specs.RecordLaws.{length-written, read-written}
use Rattle.directories.specs.EntryLaws.{length_with}
use Rattle.layout.specs.Fits.{FileFits}
use Rattle.soundness.specs.Use.{directory_used}
use Rattle.soundness.specs.Well.{Well}
use Rattle.soundness.specs.WellFacts.{directory-form, root-directory}
use Rattle.trees.specs.Rewrite.{Rewriting, with_record}
use Rattle.trees.specs.Standing.{Place, Standing, Vacant, standing, vacant, some_syllable, last_spelled}
use Rattle.trees.specs.Naming.{without_name, is_written_lem, blank_entry, unnaming-rewrites}
use Rattle.keeping.specs.Shape.{Shape, Counted, shape, counted}
use Rattle.keeping.specs.RecordStep.{as_blanked, as_named}
use Rattle.keeping.proofs.RecordStep.{shape_record}
use Rattle.keeping.specs.RecordCount.{counted_record}
use Rattle.keeping.specs.Sure.{Sized, smaller_fits}

-- ---- a name that was read, by what it stands for

module _ (s : Store) (w : Well s) (z : Sized s) (bytes : List ℕ) (n : List (List ℕ)) (is : syllables bytes ≡ some n) where
  -- the root is a directory
  pub plain_other : is_directory s (named s n) ≡ false → named s n ≢ root
  plain_other plain e = true≢false (sym (root-directory s w z.some_files) ∙ ap (is_directory s) (sym e) ∙ plain)

  pub other_standing : missing s n ≡ false → named s n ≢ root → Standing s n
  other_standing there other = let more = some_syllable s n other in standing s w n (last_spelled bytes n is more) more there

  pub new_vacant : missing s n ≡ true → nowhere s n ≡ false → Vacant s n
  unfolding missing
  new_vacant gone here =
      let none : named s n ≡ 0 = eqb-true (named s n) 0 gone in
      vacant s w n (last_spelled bytes n is (some_syllable s n (λ (e : named s n ≡ root). absurd (omega arith)))) gone here

  -- a name for a file: its directory is there, and it stands for no directory
  pub plain_place : nowhere s n ≡ false → is_directory s (named s n) ≡ false → Place s n
  plain_place here plain =
      ⊎_elim
      (λ (gone : missing s n ≡ true). (new_vacant gone here).place)
      (λ (there : missing s n ≡ false). (other_standing there (plain_other plain)).place)
      (tested (missing s n))

-- ---- the name is taken

module _ (s : Store) (w : Well s) (n : List (List ℕ)) (t : Standing s n) where
  abbrev dir : List ℕ
  dir = (s.file (parent s n)).bytes

  rewriting : Rewriting s (parent s n) (record_for s n) blank_record
  rewriting = unnaming-rewrites s n t.place

  -- the directory does not shrink
  same_size : length (with_entry dir (record_for s n) blank_record) ≡ length dir
  same_size =
      omega (arith, length_with dir blank_record (record_count dir) (record_for s n) rewriting.whole rewriting.size rewriting.within, t.there, rewriting.whole)

  pub unnamed_fits : FileFits s (parent s n) (unnaming s n)
  unfolding unnaming rewritten
  unnamed_fits =
      let u = directory_used s (parent s n) t.place.directory in
      smaller_fits s (parent s n) (rewritten s (parent s n) (record_for s n) blank_record) u.some u.within
      (λ l (e : ◌≡◌ {A = ℕ} 2 0). omega arith) (omega (arith, same_size))

  pub unnamed_shape : Shape (without_name s n)
  unfolding unnaming
  unnamed_shape =
      shape_record s (parent s n) (record_for s n) blank_record rewriting (shape s w) (as_blanked refl)
      (omega (arith, same_size, (directory-form s w (parent s n) t.place.directory).size))

  pub unnamed_counted : Counted (named s n) (without_name s n)
  unfolding unnaming
  unnamed_counted =
      let none : (entry_in blank_record).file ≡ 0 = ap (λ (e : Entry). e.file) blank_entry in
      rw t.place.file at
      (counted_record s (parent s n) (record_for s n) blank_record rewriting (counted s w (entry_in blank_record).file)
      (λ is. let u = directory_used s (entry_in blank_record).file is in absurd (omega (arith, u.some))))

-- ---- the name is given

-- record i of directory d may get the name: no other record has it
pub record Spot (s : Store) (d i : ℕ) (name : List ℕ) : Type 0 where
  pub spelled : is_syllable name ≡ true
  pub directory : is_directory s d ≡ true
  pub whole : length (s.file d).bytes ≡ 16 * record_count (s.file d).bytes
  pub within : i ≤ record_count (s.file d).bytes
  pub others : (j : ℕ) → j < record_count (s.file d).bytes → j ≢ i → (entry_at (s.file d).bytes j).name ≢ name

pub spot : (s : Store) (n : List (List ℕ)) → Place s n → Spot s (parent s n) (record_for s n) (last n)
spot s n p = record { spelled = p.spelled; directory = p.directory; whole = p.whole; within = p.within; others = p.others }

-- a directory that is the same in another store
pub spot_moved : (s s' : Store) (d i : ℕ) (name : List ℕ) → s'.file d ≡ s.file d → is_directory s' d ≡ true → Spot s d i name → Spot s' d i name
spot_moved s s' d i name e is p =
    record { spelled = p.spelled; directory = is; whole = rw e p.whole; within = rw e p.within; others = rw e p.others }

-- the directory has room for the record
pub named_fits : (s : Store) (n : List (List ℕ)) → Place s n → (f : ℕ)
    → needed (length (naming s n f).bytes) - needed (length (s.file (parent s n)).bytes) ≤ free_blocks s → FileFits s (parent s n) (naming s n f)
unfolding naming rewritten
named_fits s n p f room =
    let u = directory_used s (parent s n) p.directory in
    record { from_one = u.some; to_last = u.within; used = λ l (e : ◌≡◌ {A = ℕ} 2 0). omega arith; room = room }

-- the file that may get it
pub record Nameable (s : Store) (d f : ℕ) : Type 0 where
  pub is_in_use : in_use s f ≡ true
  pub not_root : f ≢ root
  pub small : f < 65536
  pub deeper : is_directory s f ≡ true → (s.file f).depth ≡ (s.file d).depth + 1

module _ (s : Store) (d i : ℕ) (name : List ℕ) (p : Spot s d i name) (f : ℕ) (q : Nameable s d f) where
  abbrev r : List ℕ
  r = written (entry f name)

  its_entry : entry_in r ≡ entry f name
  its_entry = read-written (entry f name) p.spelled q.small

  writing : Rewriting s d i r
  writing = record { directory = p.directory; whole = p.whole; within = p.within; size = length-written (entry f name) p.spelled }

  pub given_shape : Shape s → length (with_entry (s.file d).bytes i r) ≤ longest → Shape (with_record s d i r)
  given_shape h size =
      shape_record s d i r writing h
      (as_named (record {
        is_in_use = rw its_entry q.is_in_use;
        not_root = rw its_entry q.not_root;
        written = is_written_lem (entry f name) p.spelled q.small;
        fresh = rw its_entry p.others;
        deeper = rw its_entry q.deeper;
      }))
      size

  pub given_counted : Counted f s → (is_directory s f ≡ true → names s f ≡ 0) → Counted (entry_at (s.file d).bytes i).file (with_record s d i r)
  given_counted c first = counted_record s d i r writing (rw its_entry c) (rw its_entry first)
