-- Soundness run on tables: a small sound store, the same with bytes that play no part changed, and the same with one rule broken.
use Rattle.std.specs.Prelude.{ℕ, suc, ◌≡◌, refl, List, [], ◌∷◌, ◌++◌, replicate, drop}
use Rattle.std.proofs.lemmas.List.Edits.{sets}
use Rattle.records.specs.Rows.{pick}
use Rattle.meaning.specs.Name.{entry, written}
use Rattle.meaning.specs.Tables.{Tables, tables, block_record, file_record, channel_record}
use Rattle.meaning.specs.Sound.{sound}
use Rattle.meaning.specs.Run.{Prepare, Room, Open, Fstat}
use Rattle.meaning.specs.Running.{step, wrong, wrong_from}
use Rattle.meaning.specs.Text.{text}

-- the root has records for d (file 2) and x (file 3), the directory d a blank record and one for y (file 3);
-- file 3 has three bytes; file 4 has no name, but channel 1; file 5 is free; block 1 is free
blocks : List ℕ
blocks =
    written (entry 2 (text "d")) ++ written (entry 3 (text "x")) ++ replicate 480 9
    ++ replicate 512 9
    ++ replicate 16 0 ++ written (entry 3 (text "y")) ++ replicate 480 9
    ++ text "abc" ++ replicate 509 9

block_records : List ℕ
block_records = block_record 1 0 ++ block_record 0 0 ++ block_record 2 0 ++ block_record 3 0

file_records : List ℕ
file_records = file_record 2 0 32 ++ file_record 2 1 32 ++ file_record 1 0 3 ++ file_record 1 0 0 ++ file_record 0 0 0

channel_records : List ℕ
channel_records = channel_record 2 16777215 ++ channel_record 4 7 ++ channel_record 0 0

-- bytes written over those of one table, from a place on
in_blocks : ℕ → List ℕ → Tables
in_blocks at bytes = tables (sets blocks at bytes) block_records file_records channel_records

in_block_records : ℕ → List ℕ → Tables
in_block_records at bytes = tables blocks (sets block_records at bytes) file_records channel_records

in_file_records : ℕ → List ℕ → Tables
in_file_records at bytes = tables blocks block_records (sets file_records at bytes) channel_records

in_channel_records : ℕ → List ℕ → Tables
in_channel_records at bytes = tables blocks block_records file_records (sets channel_records at bytes)

-- the numbers, counted on from n, of the tables that are not sound
unsound : ℕ → List Tables → List ℕ
unfolding wrong_from
unsound n [] = []
unsound n (t ∷ ts) = let rest = unsound (suc n) ts in pick (sound t) rest (n ∷ rest)

-- the numbers of those that are
sound_ones : ℕ → List Tables → List ℕ
unfolding wrong_from
sound_ones n [] = []
sound_ones n (t ∷ ts) = let rest = sound_ones (suc n) ts in pick (sound t) (n ∷ rest) rest

-- the store itself; bytes of ordinary files, of free blocks and past a file's length; any byte but 0 and "/" in a name
sound-tables : unsound 1 (
    in_blocks 0 []
    ∷ in_blocks 1536 (0 ∷ 47 ∷ 255 ∷ [])
    ∷ in_blocks 512 (1 ∷ 2 ∷ 3 ∷ [])
    ∷ in_blocks 32 (1 ∷ 0 ∷ 47 ∷ [])
    ∷ in_blocks 1056 (4 ∷ 0 ∷ [])
    ∷ in_blocks 2 (32 ∷ 255 ∷ 10 ∷ [])
    ∷ in_blocks 2 (text "0123456789abcd")
    ∷ in_channel_records 4 (0 ∷ 0 ∷ 0 ∷ [])
    ∷ in_channel_records 0 (channel_record 0 0)
    ∷ [])
    ≡ []
unfolding unsound blocks block_records file_records channel_records in_blocks in_block_records in_file_records in_channel_records
sound-tables = refl

-- table lengths
lengths : sound_ones 1 (
    tables (drop 1 blocks) block_records file_records channel_records
    ∷ tables (drop 512 blocks) block_records file_records channel_records
    ∷ tables blocks (block_records ++ 0 ∷ []) file_records channel_records
    ∷ tables blocks block_records (file_records ++ 0 ∷ []) channel_records
    ∷ tables blocks block_records file_records (drop 1 channel_records)
    ∷ tables blocks block_records (file_records ++ replicate 480 0) channel_records
    ∷ tables blocks block_records file_records (channel_records ++ replicate 112 0)
    ∷ tables blocks block_records file_records []
    ∷ tables [] [] (file_record 2 0 0) channel_records
    ∷ [])
    ≡ []
unfolding sound_ones blocks block_records file_records channel_records in_blocks in_block_records in_file_records in_channel_records
lengths = refl

-- file records: half free, unknown kinds, depths and lengths, the two zeros, a second root, a root that is none
file-records : sound_ones 1 (
    in_file_records 33 (1 ∷ [])
    ∷ in_file_records 34 (1 ∷ [])
    ∷ in_file_records 36 (1 ∷ [])
    ∷ in_file_records 24 (3 ∷ [])
    ∷ in_file_records 25 (1 ∷ [])
    ∷ in_file_records 26 (1 ∷ [])
    ∷ in_file_records 19 (1 ∷ [])
    ∷ in_file_records 9 (8 ∷ [])
    ∷ in_file_records 12 (17 ∷ [])
    ∷ in_file_records 9 (0 ∷ [])
    ∷ in_file_records 0 (1 ∷ [])
    ∷ in_file_records 1 (1 ∷ [])
    ∷ in_file_records 0 (file_record 0 0 0)
    ∷ [])
    ≡ []
unfolding sound_ones blocks block_records file_records channel_records in_blocks in_block_records in_file_records in_channel_records
file-records = refl

-- block records: half free, an owner that is free or beyond, a place beyond the length, a place with two blocks, a place with none
block_records_lem : sound_ones 1 (
    in_block_records 6 (1 ∷ [])
    ∷ in_block_records 4 (5 ∷ [])
    ∷ in_block_records 4 (6 ∷ [])
    ∷ in_block_records 4 (0 ∷ 1 ∷ [])
    ∷ in_block_records 4 (block_record 3 1)
    ∷ in_block_records 4 (block_record 4 0)
    ∷ in_block_records 4 (block_record 3 0)
    ∷ in_block_records 12 (block_record 0 0)
    ∷ in_block_records 8 (block_record 2 256)
    ∷ [])
    ≡ []
unfolding sound_ones blocks block_records file_records channel_records in_blocks in_block_records in_file_records in_channel_records
block_records_lem = refl

-- channel records: half free, a file that is free or beyond, a position above 16,777,215, the two zeros
channel_records_lem : sound_ones 1 (
    in_channel_records 20 (1 ∷ [])
    ∷ in_channel_records 18 (1 ∷ [])
    ∷ in_channel_records 0 (5 ∷ [])
    ∷ in_channel_records 0 (6 ∷ [])
    ∷ in_channel_records 7 (1 ∷ [])
    ∷ in_channel_records 3 (1 ∷ [])
    ∷ in_channel_records 1 (1 ∷ [])
    ∷ [])
    ≡ []
unfolding sound_ones blocks block_records file_records channel_records in_blocks in_block_records in_file_records in_channel_records
channel_records_lem = refl

-- directory records: half blank, a file that is free, beyond or the root, no name, a "/", a byte behind the zero, a name twice
directory-records : sound_ones 1 (
    in_blocks 1024 (3 ∷ [])
    ∷ in_blocks 1026 (97 ∷ [])
    ∷ in_blocks 1039 (1 ∷ [])
    ∷ in_blocks 16 (5 ∷ [])
    ∷ in_blocks 16 (6 ∷ [])
    ∷ in_blocks 16 (1 ∷ [])
    ∷ in_blocks 18 (0 ∷ [])
    ∷ in_blocks 18 (47 ∷ [])
    ∷ in_blocks 20 (1 ∷ [])
    ∷ in_blocks 31 (1 ∷ [])
    ∷ in_blocks 18 (text "d")
    ∷ [])
    ≡ []
unfolding sound_ones blocks block_records file_records channel_records in_blocks in_block_records in_file_records in_channel_records
directory-records = refl

-- a directory without a name, with two, with one in a directory not one less deep; an ordinary file with neither name nor channel
names_of_files : sound_ones 1 (
    in_blocks 0 (replicate 16 0)
    ∷ in_blocks 16 (2 ∷ [])
    ∷ in_file_records 9 (2 ∷ [])
    ∷ in_blocks 1040 (2 ∷ [])
    ∷ in_channel_records 8 (channel_record 3 0)
    ∷ in_channel_records 8 (channel_record 0 0)
    ∷ [])
    ≡ []
unfolding sound_ones blocks block_records file_records channel_records in_blocks in_block_records in_file_records in_channel_records
names_of_files = refl

-- every call but prepare asks for a sound store, before BadName and NoSuchCid; prepare looks at the lengths alone and mends the rest
mended : wrong (in_file_records 0 (7 ∷ [])) (
    step Room (1 ∷ 0 ∷ 0 ∷ 0 ∷ [])
    ∷ step (Open (text "bad")) (1 ∷ 0 ∷ [])
    ∷ step (Fstat 99) (1 ∷ 0 ∷ 0 ∷ 0 ∷ [])
    ∷ step Prepare (0 ∷ [])
    ∷ step Room (0 ∷ 4 ∷ 4 ∷ 3 ∷ [])
    ∷ [])
    ≡ []
unfolding wrong in_file_records blocks block_records file_records channel_records
mended = refl

beyond_mending : wrong (tables (drop 1 blocks) block_records file_records channel_records) (step Prepare (1 ∷ []) ∷ [])
    ≡ []
unfolding wrong blocks block_records file_records channel_records
beyond_mending = refl
