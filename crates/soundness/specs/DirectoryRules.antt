-- The rules of one directory, said of its records in the block table.
use Rattle.std.specs.Prelude.{ℕ, suc, ◌/◌, ◌≤◌, ◌<◌, ◌≡◌, ◌≢◌, List, [], Bool, ◌&&◌, ◌||◌}
use Rattle.std.proofs.Math.Path.{ap}
use Rattle.std.proofs.Math.Logic.{⊎_elim}
use Rattle.std.proofs.Math.Bool.{not}
use Rattle.std.proofs.Common.{arith}
use Rattle.std.proofs.Math.Dec.{eqb}
use borrow.Author.Tests.{lt-ltb, le-leb, ne_eqb}
use Rattle.records.specs.Rows.{every, how_many}
use Rattle.records.specs.RowLaws.{every_cong, how_many_cong}
use Rattle.records.specs.Tests.{and_false, same_or_not}
use Rattle.meaning.specs.File.{needed}
use Rattle.meaning.specs.Name.{record_count, entry_at, is_blank, same, names_in}
use Rattle.meaning.specs.Store.{Store, in_use, is_directory}
use Rattle.meaning.specs.Tables.{tables, store_of, file_count, file_length}
use Rattle.meaning.specs.Sound.{record_sound, name_new, one_deeper}
use Rattle.soundness.specs.Rules.{deeper_than, new_at, records_at, names_at, deeper_at}
use Rattle.soundness.specs.Seen.{files_store, in_use-seen, is_directory-seen, depth-seen}
use Rattle.soundness.specs.Slots.{directories_store, Starts, slot, Placed, dir-length, slot_record, slot-entry, slot_blank}

-- each record of directory d is sound, each name new, and each directory that it names one deeper
unfoldable pub directory_rule : Store → ℕ → Bool
directory_rule s d =
    let dir = (s.file d).bytes in
    not (is_directory s d)
    || (every (record_count dir) (λ i. record_sound s dir i)
    && every (record_count dir) (λ i. name_new dir i)
    && every (record_count dir) (λ i. one_deeper s d i))

unfoldable pub directories_rule : Store → Bool
directories_rule s = every s.file_count (λ r. directory_rule s (suc r))

module _ (blocks records files : List ℕ) where
  abbrev s : Store
  s = directories_store blocks records files

  pub kind-directory : (f : ℕ) → 0 < f → f ≤ file_count files → is_directory s f ≡ eqb (s.file f).kind 2
  unfolding is_directory in_use store_of
  kind-directory f some h = rw (lt-ltb 0 f some, le-leb f (file_count files) h) (go (s.file f).kind)
    where
      go : (k : ℕ) → not (eqb k 0) && eqb k 2 ≡ eqb k 2
      go k = ⊎_elim (λ (e : k ≡ 2). rw e) (λ (d : k ≢ 2). rw (ne_eqb k 2 d, and_false (not (eqb k 0)))) (same_or_not k 2)

  module _ (placed : Placed blocks records files) (f : ℕ) (starts : List ℕ) (found : Starts records f (needed (file_length files f)) starts) where
    abbrev dir : List ℕ
    dir = (s.file f).bytes

    abbrev n : ℕ
    n = file_length files f / 16

    pub count_there : record_count dir ≡ n
    count_there = ap (λ m. m / 16) (dir-length blocks records files f)

    entry_there : (i : ℕ) → i < n → entry_at dir i ≡ entry_at blocks (slot starts i)
    entry_there i h = slot-entry blocks records files placed f starts found i h

    blank_there : (i : ℕ) → i < n → is_blank dir i ≡ is_blank blocks (slot starts i)
    blank_there i h = slot_blank blocks records files placed f starts found i h

    record_there : (i : ℕ) → i < n → record_sound s dir i ≡ record_sound (files_store files) blocks (slot starts i)
    unfolding record_sound
    record_there i h =
        rw (
          blank_there i h,
          entry_there i h,
          slot_record blocks records files placed f starts found i h,
          in_use-seen (tables blocks records files []) (entry_at blocks (slot starts i)).file,
        )

    name_there : (i : ℕ) → i < n → name_new dir i ≡ new_at blocks starts i
    unfolding name_new new_at
    name_there i h =
        rw (blank_there i h, entry_there i h)
        (ap (λ t. is_blank blocks (slot starts i) || t)
        (every_cong i (λ j. not (same (entry_at dir j).name (entry_at blocks (slot starts i)).name))
        (λ j. not (same (entry_at blocks (slot starts j)).name (entry_at blocks (slot starts i)).name))
        (λ j (l : j < i). rw (entry_there j (omega arith)))))

    deeper_there : (i : ℕ) → i < n → one_deeper s f i ≡ deeper_than (files_store files) (s.file f).depth (entry_at blocks (slot starts i)).file
    unfolding one_deeper deeper_than
    deeper_there i h =
        let g = (entry_at blocks (slot starts i)).file in
        rw (entry_there i h, is_directory-seen (tables blocks records files []) g, depth-seen (tables blocks records files []) g)

    pub records_there : every (record_count dir) (λ i. record_sound s dir i) ≡ records_at (files_store files) blocks starts n
    unfolding records_at
    records_there =
        rw count_there (every_cong n (λ i. record_sound s dir i) (λ i. record_sound (files_store files) blocks (slot starts i)) record_there)

    pub names_there : every (record_count dir) (λ i. name_new dir i) ≡ names_at blocks starts n
    unfolding names_at
    names_there = rw count_there (every_cong n (λ i. name_new dir i) (new_at blocks starts) name_there)

    pub deepers_there : every (record_count dir) (λ i. one_deeper s f i) ≡ deeper_at (files_store files) blocks starts (s.file f).depth n
    unfolding deeper_at
    deepers_there =
        rw count_there (every_cong n (λ i. one_deeper s f i) (λ i. deeper_than (files_store files) (s.file f).depth (entry_at blocks (slot starts i)).file) deeper_there)

    -- how many records name file g
    pub count-names_there : (g : ℕ) → names_in dir g ≡ how_many n (λ i. eqb (entry_at blocks (slot starts i)).file g)
    unfolding names_in
    count-names_there g =
        rw count_there (how_many_cong n (λ i. eqb (entry_at dir i).file g) (λ i. eqb (entry_at blocks (slot starts i)).file g) (λ i h. ap (λ e. eqb e.file g) (entry_there i h)))
