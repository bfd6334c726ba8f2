-- The lent tables: the store that they hold, and a change made in them, byte by byte (01, "Tables the host lends").
-- Only here is it said where blocks lie.
use Rattle.std.specs.Prelude.{ℕ, zero, suc, ◌+◌, ◌-◌, ◌*◌, ◌/◌, ◌%◌, List, [], ◌∷◌, ◌++◌, Bool, ◌&&◌, length, replicate, leb, ltb, eqb}
use Rattle.records.specs.Rows.{pick, lowest, list_of}
use Rattle.records.specs.Numbers.{one, two, four, two_bytes, four_bytes, with_record}
use Rattle.meaning.specs.File.{needed}
use Rattle.meaning.specs.Store.{Store, File, Channel, Change, file, channel, prepared, no_file}

pub record Tables : Type 0 where
  pub blocks : List ℕ
  pub block_records : List ℕ
  pub file_records : List ℕ
  pub channel_records : List ℕ

abbrev pub tables : List ℕ → List ℕ → List ℕ → List ℕ → Tables
tables blocks block_records file_records channel_records =
    record { blocks = blocks; block_records = block_records; file_records = file_records; channel_records = channel_records }

-- ---- records: block b's is number b, channel c's is number c, and file f's, since files are counted from 1, is number f - 1

abbrev pub block_count : List ℕ → ℕ
block_count records = length records / 4

-- a block record: owner file (2), place in file (2)
unfoldable pub owner : List ℕ → ℕ → ℕ
owner records b = two records (4 * b)

unfoldable pub place : List ℕ → ℕ → ℕ
place records b = two records (4 * b + 2)

unfoldable pub block_record : ℕ → ℕ → List ℕ
block_record f i = two_bytes f ++ two_bytes i

abbrev pub file_count : List ℕ → ℕ
file_count records = length records / 8

-- a file record: kind, depth, two zeros, length (4)
unfoldable pub kind_at : List ℕ → ℕ → ℕ
kind_at records r = one records (8 * r)

unfoldable pub depth_at : List ℕ → ℕ → ℕ
depth_at records r = one records (8 * r + 1)

unfoldable pub length_at : List ℕ → ℕ → ℕ
length_at records r = four records (8 * r + 4)

-- the length of file f, by its number; 0 means none
unfoldable pub file_length : List ℕ → ℕ → ℕ
file_length records zero = 0
file_length records (suc r) = length_at records r

unfoldable pub file_record : ℕ → ℕ → ℕ → List ℕ
file_record kind depth size = kind ∷ depth ∷ 0 ∷ 0 ∷ four_bytes size

abbrev pub channel_count : List ℕ → ℕ
channel_count records = length records / 8

-- a channel record: file (2), two zeros, position (4)
unfoldable pub channel_file_at : List ℕ → ℕ → ℕ
channel_file_at records c = two records (8 * c)

unfoldable pub position_at : List ℕ → ℕ → ℕ
position_at records c = four records (8 * c + 4)

unfoldable pub channel_record : ℕ → ℕ → List ℕ
channel_record f posn = two_bytes f ++ 0 ∷ 0 ∷ four_bytes posn

-- ---- the store that tables hold

-- block b is place i of file f; a free block's record is all zero, as if it were place 0 of file 0
unfoldable pub holds : List ℕ → ℕ → ℕ → ℕ → Bool
holds records f i b = eqb (owner records b) f && eqb (place records b) i

abbrev pub is_free : List ℕ → ℕ → Bool
is_free records b = holds records 0 0 b

-- the block that is place i of file f; the block count where there is none
unfoldable pub block_of : List ℕ → ℕ → ℕ → ℕ
block_of records f i = lowest (block_count records) (λ b. holds records f i b)

-- byte k of file f
unfoldable pub byte_of : Tables → ℕ → ℕ → ℕ
byte_of t f k = one t.blocks (512 * block_of t.block_records f (k / 512) + k % 512)

-- file f; 0 means none
unfoldable pub file_of : Tables → ℕ → File
file_of t zero = no_file
file_of t (suc r) =
    record {
      kind = kind_at t.file_records r;
      depth = depth_at t.file_records r;
      bytes = list_of (length_at t.file_records r) (λ k. byte_of t (suc r) k);
    }

unfoldable pub channel_of : Tables → ℕ → Channel
channel_of t c = record { file = channel_file_at t.channel_records c; posn = position_at t.channel_records c }

unfoldable pub store_of : Tables → Store
store_of t =
    record {
      block_count = block_count t.block_records;
      file_count = file_count t.file_records;
      channel_count = channel_count t.channel_records;
      file = file_of t;
      channel = channel_of t;
    }

-- ---- a change made in the tables: every byte of them

-- the block records less the places of file f from n on
unfoldable pub released : List ℕ → ℕ → ℕ → List ℕ
released records f n =
    list_of (length records) λ k.
    let b = k / 4 in
    pick (eqb (owner records b) f && leb n (place records b)) 0 (one records k)

-- the block records with the lowest free block as place i of file f
unfoldable pub taken : List ℕ → ℕ → ℕ → List ℕ
taken records f i = with_record 4 records (block_of records 0 0) (block_record f i)

-- n places taken, from place i on in rising place
unfoldable pub taken_from : List ℕ → ℕ → ℕ → ℕ → List ℕ
taken_from records f i zero = records
taken_from records f i (suc n) = taken_from (taken records f i) f (suc i) n

-- the blocks with the bytes of file f laid into its places; all other bytes stay, those past the file's end too
unfoldable pub laid : List ℕ → List ℕ → ℕ → List ℕ → List ℕ
laid blocks records f bytes =
    list_of (length blocks) λ k.
    let b = k / 512 in
    let j = 512 * place records b + k % 512 in
    pick (eqb (owner records b) f && ltb j (length bytes)) (one bytes j) (one blocks k)

-- the block records where file f, of `old` bytes, is to have `new`
unfoldable pub resized : List ℕ → ℕ → ℕ → ℕ → List ℕ
resized records f old new = taken_from (released records f (needed new)) f (needed old) (needed new - needed old)

-- a file as it is to be: its places past the end are let go, the lowest free blocks taken for new places,
-- its record written and its bytes laid. A channel as it is to be: its record written.
-- A prepared store: all records zero but file 1, an empty directory; blocks keep their bytes.
unfoldable pub put : Tables → Change → Tables
put t (file zero x) = t
put t (file (suc r) x) =
    let records = resized t.block_records (suc r) (length_at t.file_records r) (length x.bytes) in
    record {
      blocks = laid t.blocks records (suc r) x.bytes;
      block_records = records;
      file_records = with_record 8 t.file_records r (file_record x.kind x.depth (length x.bytes));
      channel_records = t.channel_records;
    }
put t (channel c y) =
    record {
      blocks = t.blocks;
      block_records = t.block_records;
      file_records = t.file_records;
      channel_records = with_record 8 t.channel_records c (channel_record y.file y.posn);
    }
put t prepared =
    record {
      blocks = t.blocks;
      block_records = replicate (length t.block_records) 0;
      file_records = with_record 8 (replicate (length t.file_records) 0) 0 (file_record 2 0 0);
      channel_records = replicate (length t.channel_records) 0;
    }

unfoldable pub put_all : Tables → List Change → Tables
put_all t [] = t
put_all t (change ∷ changes) = put_all (put t change) changes
