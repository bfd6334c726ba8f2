-- A sound store (01, "A store is sound when all of these hold"): the rules in 01's order, each under its own name.
use Rattle.std.specs.Prelude.{ℕ, suc, ◌+◌, ◌*◌, ◌%◌, List, [], ◌∷◌, Bool, not, ◌&&◌, ◌||◌, length, leb, ltb, eqb}
use Rattle.records.specs.Rows.{agree, all_of, every, how_many}
use Rattle.records.specs.Numbers.{zeros}
use Rattle.meaning.specs.File.{needed, longest}
use Rattle.meaning.specs.Name.{record_count, record_at, entry_at, is_blank, is_written, same}
use Rattle.meaning.specs.Store.{Store, File, Channel, root, in_use, is_directory, names, held}
use Rattle.meaning.specs.Tables.{Tables, store_of, block_count, file_count, channel_count, owner, place, holds, is_free, file_length}
use Rattle.meaning.specs.ChannelCalls.{last_position}

abbrev pub between : ℕ → ℕ → ℕ → Bool
between low high n = leb low n && leb n high

-- ---- rules of the tables

-- table lengths agree with one B, F and C in range
unfoldable pub lengths_agree : Tables → Bool
lengths_agree t =
    let B = block_count t.block_records in
    let F = file_count t.file_records in
    let C = channel_count t.channel_records in
    all_of (
    between 1 128 B
    ∷ eqb (length t.blocks) (512 * B)
    ∷ eqb (length t.block_records) (4 * B)
    ∷ between 1 64 F
    ∷ eqb (length t.file_records) (8 * F)
    ∷ between 1 16 C
    ∷ eqb (length t.channel_records) (8 * C)
    ∷ [])

-- the two zeros of every file record and of every channel record are zero
unfoldable pub zeros_stand : Tables → Bool
zeros_stand t =
    every (file_count t.file_records) (λ r. zeros t.file_records (8 * r + 2) 2)
    && every (channel_count t.channel_records) (λ c. zeros t.channel_records (8 * c + 2) 2)

-- a block record is all zero, or its owner is in use and its place is below the owner's length divided by 512, rounded up
unfoldable pub block_sound : Tables → ℕ → Bool
block_sound t b =
    let f = owner t.block_records b in
    is_free t.block_records b
    || (in_use (store_of t) f && ltb (place t.block_records b) (needed (file_length t.file_records f)))

-- each such place of file f has exactly one block
unfoldable pub placed_once : Tables → ℕ → Bool
placed_once t f =
    every (needed (file_length t.file_records f))
    (λ i. eqb (how_many (block_count t.block_records) (λ b. holds t.block_records f i b)) 1)

unfoldable pub blocks_sound : Tables → Bool
blocks_sound t =
    every (block_count t.block_records) (λ b. block_sound t b)
    && every (file_count t.file_records) (λ r. placed_once t (suc r))

unfoldable pub layout_sound : Tables → Bool
layout_sound t = all_of (lengths_agree t ∷ zeros_stand t ∷ blocks_sound t ∷ [])

-- ---- rules of the store

-- kind 0 free, all zero
unfoldable pub as_free : File → Bool
as_free x = eqb x.kind 0 && eqb x.depth 0 && eqb (length x.bytes) 0

-- kind 1 ordinary, depth 0, length at most 32,768
unfoldable pub as_ordinary : File → Bool
as_ordinary x = eqb x.kind 1 && eqb x.depth 0 && leb (length x.bytes) longest

-- kind 2 directory, depth 0 to 7, length a multiple of 16 up to 32,768
unfoldable pub as_directory : File → Bool
as_directory x =
    eqb x.kind 2 && leb x.depth 7 && leb (length x.bytes) longest && eqb (length x.bytes % 16) 0

-- a file record has one of the three forms; file 1, and no other, is a directory of depth 0
unfoldable pub file_sound : ℕ → File → Bool
file_sound f x =
    (as_free x || as_ordinary x || as_directory x)
    && agree (eqb f root) (eqb x.kind 2 && eqb x.depth 0)

unfoldable pub files_sound : Store → Bool
files_sound s = every s.file_count (λ i. file_sound (suc i) (s.file (suc i)))

-- a channel is free, all zero, or names a file in use with a position up to 16,777,215
unfoldable pub channel_sound : Store → Channel → Bool
channel_sound s y = (eqb y.file 0 && eqb y.posn 0) || (in_use s y.file && leb y.posn last_position)

unfoldable pub channels_sound : Store → Bool
channels_sound s = every s.channel_count (λ c. channel_sound s (s.channel c))

-- record i of a directory is blank, or names a file in use, not file 1, by a syllable padded with zeros
unfoldable pub record_sound : Store → List ℕ → ℕ → Bool
record_sound s dir i =
    let f = (entry_at dir i).file in
    is_blank dir i || (in_use s f && not (eqb f root) && is_written (record_at dir i))

-- no record before record i has its name, if it has one
unfoldable pub name_new : List ℕ → ℕ → Bool
name_new dir i = is_blank dir i || every i (λ j. not (same (entry_at dir j).name (entry_at dir i).name))

unfoldable pub directories_sound : Store → Bool
directories_sound s =
    every s.file_count λ r.
    let dir = (s.file (suc r)).bytes in
    not (is_directory s (suc r)) || every (record_count dir) (λ i. record_sound s dir i && name_new dir i)

-- a directory that record i of directory d names is one deeper than d
unfoldable pub one_deeper : Store → ℕ → ℕ → Bool
one_deeper s d i =
    let f = (entry_at (s.file d).bytes i).file in
    not (is_directory s f) || eqb (s.file f).depth ((s.file d).depth + 1)

-- each directory but the root is named by exactly one record; each ordinary file in use has a record or a channel
unfoldable pub is_named : Store → ℕ → Bool
is_named s f =
    not (in_use s f)
    || eqb f root
    || (is_directory s f && eqb (names s f) 1)
    || (not (is_directory s f) && (ltb 0 (names s f) || held s f))

unfoldable pub names_sound : Store → Bool
names_sound s =
    every s.file_count (λ r. not (is_directory s (suc r)) || every (record_count (s.file (suc r)).bytes) (λ i. one_deeper s (suc r) i))
    && every s.file_count (λ i. is_named s (suc i))

unfoldable pub well_formed : Store → Bool
well_formed s = all_of (files_sound s ∷ channels_sound s ∷ directories_sound s ∷ names_sound s ∷ [])

-- ---- a store is sound

unfoldable pub sound : Tables → Bool
sound t = layout_sound t && well_formed (store_of t)
