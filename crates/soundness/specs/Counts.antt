-- Names counted file by file, over the directories passed so far.
use Rattle.std.specs.Prelude.{ℕ, zero, suc, ◌+◌, ◌-◌, ◌*◌, ◌/◌, ◌≤◌, ◌<◌, ◌≡◌, refl, List, Bool, length, get_or}
use Rattle.std.proofs.Common.{sym, ◌∙◌}
use Rattle.std.proofs.Math.Bool.{true, false}
use native.Mathlib.Omega.{arith}
use lib.ListN.{replicate, get_or-replicate}
use Rattle.std.proofs.Math.Dec.{eqb}
use Rattle.records.specs.Rows.{pick, every, how_many, sum}
use Rattle.records.specs.RowLaws.{every_all}
use Rattle.records.specs.LoopLaws.{sum_start, sum_step, how_many-within}
use Rattle.records.specs.Tests.{and_left}
use Rattle.meaning.specs.File.{needed}
use Rattle.meaning.specs.Name.{record_count, entry_at, names_in}
use Rattle.meaning.specs.Store.{Store, is_directory, names}
use Rattle.meaning.specs.Tables.{store_of, file_count, file_length}
use Rattle.meaning.specs.Sound.{record_sound, name_new, one_deeper}
use Rattle.soundness.specs.Use.{implied, every-file, used}
use Rattle.soundness.specs.Well.{RecordForm, as_blank, as_naming}
use Rattle.soundness.specs.FormLaws.{record_form}
use Rattle.soundness.specs.WellFacts.{blank_file}
use Rattle.soundness.specs.Rules.{names-at, Counted, Countable}
use Rattle.soundness.specs.Slots.{directories_store, dir-length, Starts, slot, slot-entry, Placed, within_placed}
use Rattle.soundness.specs.DirectoryRules.{directory_rule, directories_rule, count-names_there}

-- how many records of file d, if that is a directory, name file f
unfoldable pub names_of : Store → ℕ → ℕ → ℕ
names_of s d f = let n = names_in (s.file d).bytes f in pick (is_directory s d) n 0

pub names_summed : (s : Store) (f : ℕ) → names s f ≡ sum s.file_count (λ i. names_of s (suc i) f)
unfolding names names_of
names_summed s f = refl

-- a row of counts, one for each file number up to 64: the names that the first r files give
pub record Counts (s : Store) (r : ℕ) (counts : List ℕ) : Type 0 where
  pub size : length counts ≡ 65
  pub each : (f : ℕ) → f ≤ 64 → get_or counts f 0 ≡ sum r (λ i. names_of s (suc i) f)

pub counts_start : (s : Store) (counts : List ℕ) → length counts ≡ 65 → ((f : ℕ) → f ≤ 64 → get_or counts f 0 ≡ 0) → Counts s 0 counts
counts_start s counts size none = record { size = size; each = λ f h. none f h ∙ sym (sum_start (λ i. names_of s (suc i) f)) }

pub counts_zeros : (s : Store) → Counts s 0 (replicate 65 0)
counts_zeros s = counts_start s (replicate 65 0) refl (λ f h. get_or-replicate 65 f 0 0 (omega arith))

-- one file more
names-step : (s : Store) (d f : ℕ) → 0 < d → sum d (λ i. names_of s (suc i) f) ≡ sum (d - 1) (λ i. names_of s (suc i) f) + names_of s d f
names-step s d f some =
    let e : d - 1 + 1 ≡ d = omega arith in
    let n : suc (d - 1) ≡ d = omega arith in
    rw (e, n) at (sum_step (λ i. names_of s (suc i) f) (d - 1))

sum-within : (n : ℕ) (g : ℕ → ℕ) → ((i : ℕ) → i < n → g i ≤ 2048) → sum n g ≤ 2048 * n
unfolding sum
sum-within zero g h = omega arith
sum-within (suc n) g h = omega (arith, sum-within n g (λ i l. h i (omega arith)), h n (omega arith))

module _ (blocks records files : List ℕ) (placed : Placed blocks records files) where
  abbrev s : Store
  s = directories_store blocks records files

  few-names : (d f : ℕ) → d ≤ file_count files → names_of s d f ≤ 2048
  unfolding names_of names_in
  few-names d f h = go (is_directory s d)
    where
      go : (t : Bool) → pick t (names_in (s.file d).bytes f) 0 ≤ 2048
      go true =
          omega (arith, how_many-within (λ i. eqb (entry_at (s.file d).bytes i).file f) (record_count (s.file d).bytes), dir-length blocks records files d, placed.short d h)
      go false = omega arith

  -- no count is high
  counts_low : (r : ℕ) (counts : List ℕ) → Counts s r counts → r ≤ file_count files → (f : ℕ) → f ≤ 64 → get_or counts f 0 ≤ 131072
  counts_low r counts so_far h f b =
      let all : sum r (λ i. names_of s (suc i) f) ≤ 2048 * r = sum-within r (λ i. names_of s (suc i) f) (λ i (l : i < r). few-names (suc i) f (omega arith)) in
      omega (arith, so_far.each f b, placed.few-files)

  -- file d comes after those that are counted
  module _ (d : ℕ) (there : (0 < d) × (d ≤ file_count files)) (counts : List ℕ) (so_far : Counts s (d - 1) counts) where
    -- a file that is no directory gives no names
    pub counts_none : is_directory s d ≡ false → Counts s d counts
    unfolding names_of
    counts_none e =
        record {
          size = so_far.size;
          each = λ f h.
              let none : names_of s d f ≡ 0 = rw e in
              omega (arith, so_far.each f h, names-step s d f there.0, none);
        }

    module _ (starts : List ℕ) (found : Starts records d (needed (file_length files d)) starts) where
      -- a directory gives those of its records
      pub counts_more : is_directory s d ≡ true → (new : List ℕ) → Counted blocks starts (file_length files d / 16) counts new → Counts s d new
      unfolding names_of
      counts_more e new counted =
          record {
            size = counted.size;
            each = λ f b.
                let some : names_of s d f ≡ how_many (file_length files d / 16) (names-at blocks starts f) = rw e (count-names_there blocks records files placed d starts found f) in
                omega (arith, counted.each f b, so_far.each f b, names-step s d f there.0, some);
          }

      module _ (is : is_directory s d ≡ true) (rules : directories_rule s ≡ true) where
        abbrev dir : List ℕ
        dir = (s.file d).bytes

        sound_record : (i : ℕ) → i < file_length files d / 16 → record_sound s dir i ≡ true
        unfolding directories_rule directory_rule store_of
        sound_record i l =
            let all = implied (is_directory s d) _ (every-file (file_count files) (λ f. directory_rule s f) rules d there.0 there.1) is in
            every_all (record_count dir) (λ i. record_sound s dir i)
            (and_left _ (every (record_count dir) (λ i. name_new dir i)) (and_left _ (every (record_count dir) (λ i. one_deeper s d i)) all)) i
            (rw (dir-length blocks records files d) l)

        -- a sound record names a file number up to 64
        number_low : (i : ℕ) → i < file_length files d / 16 → (entry_at blocks (slot starts i)).file ≤ 64
        unfolding store_of
        number_low i l = rw (← slot-entry blocks records files placed d starts found i l) (go (record_form s dir i (sound_record i l)))
          where
            go : RecordForm s dir i → (entry_at dir i).file ≤ 64
            go (as_blank b) = omega (arith, blank_file dir i b)
            go (as_naming n) = let u = used s (entry_at dir i).file n.is_in_use in omega (arith, u.within, placed.few-files)

        pub countable : Countable blocks starts (file_length files d / 16) counts
        countable =
            record {
              size = so_far.size;
              within = within_placed blocks records files placed d there.1 starts found;
              numbers = number_low;
              low = counts_low (d - 1) counts so_far (omega (arith, there.1));
            }
