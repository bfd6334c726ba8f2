-- The source's limits: a byte's range (4.3.1), file size (4.5.1), number of files (4.5.2), capacity of the medium (4.5.3), numbers
-- (4.5.5); and 01's of channels and names, which the source leaves open. Each is the limit of the tables that a host lends, holds
-- of the state of sound tables, and is kept by every outcome. Reports: TooBig, NoFreeFids, NoRoom and BadSeek; that each is given
-- only where its limit would be passed is in LimitErrors.
use Rattle.std.specs.Prelude.{ℕ, suc, ◌-◌, ◌*◌, ◌^◌, ◌≤◌, ◌<◌, ◌≡◌, List, [], true, length, get_or}
use Rattle.std.proofs.Math.Option.{Option, none, some}
use Rattle.records.specs.Rows.{sum}
use Rattle.meaning.specs.File.{needed, longest}
use Rattle.meaning.specs.Name.{is_syllable, most_syllables}
use Rattle.meaning.specs.Store.{Store}
use Rattle.meaning.specs.Tables.{Tables, store_of}
use Rattle.meaning.specs.Sound.{sound}
use Rattle.meaning.specs.Run.{Call, Prepare, Room, Create, Open, Unlink, Mkdir, Rmdir, Link, Move, Ls, Close, Fstat, Read, Write, Seek, Outcome}
use Rattle.source.specs.Sets.{ℙ, ◌∈dom◌, ◌··◌}
use Rattle.source.specs.Files.{SeqBYTE, FILE, FID, FSTORE}
use Rattle.source.specs.Channels.{CHAN, CID}
use Rattle.source.specs.Naming.{NAME}
use Rattle.source.specs.OutcomeStatements.{state_of, Kept}

-- ---- 4.5.1: FILE == {f : seq BYTE | #f ≤ FileSizeLimit}

abbrev pub FileSizeLimit : ℕ
FileSizeLimit = longest

-- ---- 4.5.2: #fstore ≤ FileNumberLimit. The file numbers of a store are 1 to F

abbrev pub FileNumberLimit : Store → ℕ
FileNumberLimit s = s.file_count

-- ---- 4.5.3: DeviceCapacity ≥ Σ [fid : dom fstore • minbytes (fstore fid)]

-- a store of B blocks
abbrev pub DeviceCapacity : Store → ℕ
DeviceCapacity s = 512 * s.block_count

-- a file is represented in one way only: in as many blocks as hold its bytes. So minbytes and maxbytes are the same
abbrev pub minbytes : FILE → ℕ
minbytes file = 512 * needed (length file)

abbrev pub maxbytes : FILE → ℕ
maxbytes = minbytes

-- what a file number takes
unfoldable pub taking : Option FILE → ℕ
taking none = 0
taking (some file) = minbytes file

-- the sum over the file numbers 1 to `files`
abbrev pub represented : ℕ → FSTORE → ℕ
represented files fstore = sum files (λ i. taking (fstore (suc i)))

-- ---- 4.5.5: n24bit == 0 .. 2^24 - 1

abbrev pub n24bit : ℙ ℕ
n24bit = 0 ·· (2 ^ 24 - 1)

-- ---- the limits of tables

pub record Limits (t : Tables) : Type 0 where
  -- 4.3.1: files are made of bytes where the blocks are
  pub bytes : SeqBYTE t.blocks → (fid : FID) (file : FILE) → (state_of t).fstore fid ≡ some file → SeqBYTE file
  -- 4.5.1: 32,768 bytes
  pub file-size : (fid : FID) (file : FILE) → (state_of t).fstore fid ≡ some file → length file ≤ FileSizeLimit
  -- 4.5.2: dom fstore ⊆ 1 .. FileNumberLimit, which is at most 64
  pub file_numbers : (fid : FID) → fid ∈dom (state_of t).fstore → (1 ·· FileNumberLimit (store_of t)) fid ≡ true
  pub few-files : FileNumberLimit (store_of t) ≤ 64
  -- 4.5.3: the files have room, in at most 128 blocks of 512 bytes
  pub capacity : represented (FileNumberLimit (store_of t)) (state_of t).fstore ≤ DeviceCapacity (store_of t)
  pub few-blocks : DeviceCapacity (store_of t) ≤ 65536
  -- 4.5.5: posn : n24bit
  pub positions : (cid : CID) (chan : CHAN) → (state_of t).cstore cid ≡ some chan → n24bit chan.posn ≡ true
  -- 01: CID is the numbers from 0 to C - 1, with C at most 16
  pub channel_numbers : (cid : CID) → cid ∈dom (state_of t).cstore → cid < (store_of t).channel_count
  pub few-channels : (store_of t).channel_count ≤ 16
  -- 01: a name has at most 8 syllables, each of 1 to 14 bytes, none of them 0 or "/"
  pub few-syllables : (name : NAME) → name ∈dom (state_of t).nstore → length name ≤ most_syllables
  pub syllables : (name : NAME) → name ∈dom (state_of t).nstore → (i : ℕ) → i < length name → is_syllable (get_or name i []) ≡ true

abbrev pub LimitsHold : Type 0
LimitsHold = (t : Tables) → sound t ≡ true → Limits t

-- no call moves a limit, or passes one
pub record SameLimits (s s' : Store) : Type 0 where
  pub files : FileNumberLimit s' ≡ FileNumberLimit s
  pub capacity : DeviceCapacity s' ≡ DeviceCapacity s
  pub channels : s'.channel_count ≡ s.channel_count

abbrev pub LimitsKept : Type 0
LimitsKept = (call : Call) (t : Tables) (buffer : List ℕ) (o : Outcome) → Kept call t buffer o → Limits o.tables × SameLimits (store_of t) (store_of o.tables)

-- ---- 4.3.1 once more: what is read, and every block afterwards, are bytes where the blocks, the lent buffer and what is given were

-- data?, and names that are written into a directory, are sequences of bytes
unfoldable pub Given : Call → Type 0
Given (Write c bytes) = SeqBYTE bytes
Given (Create bytes) = SeqBYTE bytes
Given (Mkdir bytes) = SeqBYTE bytes
Given (Link old new) = SeqBYTE new
Given (Move old new) = SeqBYTE new
Given (Open bytes) = Unit {0}
Given (Unlink bytes) = Unit {0}
Given (Rmdir bytes) = Unit {0}
Given (Ls bytes size) = Unit {0}
Given (Read c count) = Unit {0}
Given (Seek c mode n) = Unit {0}
Given (Fstat c) = Unit {0}
Given (Close c) = Unit {0}
Given Prepare = Unit {0}
Given Room = Unit {0}

abbrev pub BytesKept : Type 0
BytesKept =
    (call : Call) (t : Tables) (buffer : List ℕ) (o : Outcome) → Kept call t buffer o → Given call → SeqBYTE t.blocks → SeqBYTE buffer
    → SeqBYTE o.tables.blocks × SeqBYTE o.buffer
