-- A directory's records in the block table: the table is itself a row of 16-byte records, 32 to a block, and record i of a
-- directory is one of them.
use Rattle.std.specs.Prelude.{ℕ, ◌+◌, ◌*◌, ◌/◌, ◌%◌, ◌≤◌, ◌<◌, ◌≡◌, List, [], length, get_or}
use Rattle.std.proofs.Common.{sym, ◌∙◌, arith}
use Rattle.std.proofs.Math.Path.{ap}
use Rattle.records.specs.Numbers.{zeros}
use Rattle.meaning.specs.File.{needed, longest}
use Rattle.meaning.specs.Name.{record_at, entry_at, entry_in, is_blank}
use Rattle.meaning.specs.Store.{Store}
use Rattle.meaning.specs.Tables.{tables, store_of, block_of, block_count, file_count, file_length}
use Rattle.meaning.specs.declared.Lent.{Lent}
use Rattle.names.specs.RecordNames.{record_from, record_at_lem}
use Rattle.layout.specs.Layout.{length-file}
use Rattle.directories.specs.Places.{record_place, record_there, blank_there}

-- the store of all tables but channel records
abbrev pub directories_store : List ℕ → List ℕ → List ℕ → Store
directories_store blocks records files = store_of (tables blocks records files [])

abbrev pub directories_of : Lent → Store
directories_of store = directories_store store.blocks.now store.block_records.now store.file_records.now

-- the first n places of file f have blocks
pub record Findable (records : List ℕ) (f n : ℕ) : Type 0 where
  pub few : n ≤ 64
  pub few-blocks : block_count records ≤ 128
  pub there : (p : ℕ) → p < n → block_of records f p < block_count records

-- these blocks in a row
pub record Starts (records : List ℕ) (f n : ℕ) (starts : List ℕ) : Type 0 where
  pub each : (p : ℕ) → p < n → get_or starts p 0 ≡ block_of records f p

-- where record i of a directory is, by the row of its blocks
unfoldable pub slot : List ℕ → ℕ → ℕ
slot starts i = 32 * get_or starts (i / 32) 0 + i % 32

-- what earlier rules have shown: tables of one block count, files of few places, and a block for each place
pub record Placed (blocks records files : List ℕ) : Type 0 where
  pub few-blocks : block_count records ≤ 128
  pub whole : length blocks ≡ 512 * block_count records
  pub few-files : file_count files ≤ 64
  pub short : (f : ℕ) → f ≤ file_count files → file_length files f ≤ longest
  pub there : (f i : ℕ) → i < needed (file_length files f) → block_of records f i < block_count records

abbrev pub PlacedIn : Lent → Type 0
PlacedIn store = Placed store.blocks.now store.block_records.now store.file_records.now

pub dir-length : (blocks records files : List ℕ) (f : ℕ) → length ((directories_store blocks records files).file f).bytes ≡ file_length files f
unfolding store_of
dir-length blocks records files f = length-file (tables blocks records files []) f

module _ (blocks records files : List ℕ) (placed : Placed blocks records files) (f : ℕ) (starts : List ℕ) (found : Starts records f (needed (file_length files f)) starts) where
  abbrev dir : List ℕ
  dir = ((directories_store blocks records files).file f).bytes

  module _ (i : ℕ) (h : i < file_length files f / 16) where
    place : i / 32 < needed (file_length files f)
    place = omega arith

    slot-place : 16 * slot starts i ≡ record_place records f i
    unfolding slot record_place
    slot-place = omega (arith, found.each (i / 32) place)

    -- record i lies in the block table
    pub slot_inside : 16 * slot starts i + 16 ≤ length blocks
    unfolding slot
    slot_inside = omega (arith, found.each (i / 32) place, placed.there f (i / 32) place, placed.whole)

    whole : 16 * i + 16 ≤ length dir
    whole = omega (arith, dir-length blocks records files f)

    pub slot_record : record_at dir i ≡ record_at blocks (slot starts i)
    slot_record =
        record_there (tables blocks records files []) f i whole (rw (← slot-place) slot_inside)
        ∙ sym (record_at_lem blocks (slot starts i) ∙ ap (record_from blocks) slot-place)

    pub slot-entry : entry_at dir i ≡ entry_at blocks (slot starts i)
    unfolding entry_at
    slot-entry = ap entry_in slot_record

    pub slot_blank : is_blank dir i ≡ is_blank blocks (slot starts i)
    unfolding is_blank
    slot_blank = blank_there (tables blocks records files []) f i whole ∙ ap (λ at. zeros blocks at 16) (sym slot-place)

-- the first n records of a directory lie in the block table
pub record Within (blocks starts : List ℕ) (n : ℕ) : Type 0 where
  pub few : n ≤ 2048
  pub small : length blocks ≤ 65536
  pub inside : (i : ℕ) → i < n → 16 * slot starts i + 16 ≤ length blocks

pub within_less : (blocks starts : List ℕ) (n m : ℕ) → m ≤ n → Within blocks starts n → Within blocks starts m
within_less blocks starts n m l w =
    record { few = omega (arith, w.few); small = w.small; inside = λ i (h : i < m). w.inside i (omega arith) }

pub within_placed : (blocks records files : List ℕ) → Placed blocks records files → (f : ℕ) → f ≤ file_count files →
    (starts : List ℕ) → Starts records f (needed (file_length files f)) starts → Within blocks starts (file_length files f / 16)
within_placed blocks records files placed f h starts found =
    record {
      few = omega (arith, placed.short f h);
      small = omega (arith, placed.whole, placed.few-blocks);
      inside = slot_inside blocks records files placed f starts found;
    }

module _ (blocks starts : List ℕ) (n : ℕ) (w : Within blocks starts n) (i : ℕ) (h : i < n) where
  pub slot-few : i < 2048
  slot-few = omega (arith, w.few)

  pub slot_fits : (at : ℕ) → at ≡ 16 * slot starts i → at + 16 ≤ length blocks
  slot_fits at e = omega (arith, w.inside i h)
