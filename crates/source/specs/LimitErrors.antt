-- The reports of the source's limits are given only where the limit would be passed: of capacity the source says so itself (4.5.3, the
-- condition "is necessary for a device full error"); likewise file size (4.5.1), number of files (4.5.2) and positions (4.5.5).
-- The other way round, that a call which would pass a limit is not accepted, is what Limits says: limits are kept.
use Rattle.std.specs.Prelude.{ℕ, ◌≤◌, ◌<◌, ◌≡◌, ◌⊎◌, List, ◌∷◌, false, length}
use Rattle.std.proofs.Math.Option.{some}
use Rattle.meaning.specs.Name.{syllables}
use Rattle.meaning.specs.Store.{Store, front}
use Rattle.meaning.specs.NameCalls.{naming}
use Rattle.meaning.specs.Tables.{Tables, store_of}
use Rattle.meaning.specs.Run.{Call, Create, Mkdir, Link, Move, Write, Seek, number_of, Outcome}
use Rattle.meaning.specs.declared.Report.{Report}
use Rattle.meaning.specs.declared.Report.TheVariants.{NoFreeFids, NoRoom, TooBig, BadSeek}
use Rattle.source.specs.Sets.{◌∈dom◌, ◌⊕◌, ◌⟼◌, the}
use Rattle.source.specs.Files.{FID, FILE, writeFILE}
use Rattle.source.specs.Channels.{CHAN, seekoffset}
use Rattle.source.specs.Naming.{NAME}
use Rattle.source.specs.View.{view}
use Rattle.source.specs.OutcomeStatements.{Kept}
use Rattle.source.specs.Limits.{FileSizeLimit, FileNumberLimit, DeviceCapacity, represented, n24bit}

-- an outcome gives the report only where the cause holds of the store that the tables hold
abbrev pub Only : Call → Report → (Store → Type 0) → Type 0
Only call why cause =
    (t : Tables) (buffer : List ℕ) (o : Outcome) → Kept call t buffer o → (numbers : List ℕ) → o.answer ≡ number_of why ∷ numbers → cause (store_of t)

-- ---- a file that would pass a limit

-- 4.5.1
abbrev pub TooLong : Store → FID → FILE → Type 0
TooLong s fid file' = FileSizeLimit < length file'

-- 4.5.3, where fstore'' = fstore ⊕ {fid ↦ file'} is the storage system that would have resulted
abbrev pub Overfull : Store → FID → FILE → Type 0
Overfull s fid file' = DeviceCapacity s < represented (FileNumberLimit s) ((view s).fstore ⊕ the fid ⟼ file')

-- the file that a write would have made
pub record Written (Passes : Store → FID → FILE → Type 0) (c : ℕ) (bytes : List ℕ) (s : Store) : Type 0 where
  pub chan : CHAN
  pub file : FILE
  pub file' : FILE
  pub is : (view s).cstore c ≡ some chan
  pub of : (view s).fstore chan.fid ≡ some file
  pub writes : writeFILE file file' chan.posn bytes
  pub passes : Passes s chan.fid file'

-- the directory's file with the record of a name that stands for file `new`
pub record Recorded (Passes : Store → FID → FILE → Type 0) (name : NAME) (s : Store) : Type 0 where
  pub directory : FID
  pub new : FID
  pub is : (view s).nstore (front name) ≡ some directory
  pub passes : Passes s directory (naming s name new).bytes

-- ---- the other limits

-- 4.5.2: every file number is that of a file
abbrev pub AllFiles : Store → Type 0
AllFiles s = (fid : FID) → 1 ≤ fid → fid ≤ FileNumberLimit s → fid ∈dom (view s).fstore

-- 4.5.5: the offset of 4.5.4 has more than 24 bits
pub record PastPosition (c mode n : ℕ) (s : Store) : Type 0 where
  pub chan : CHAN
  pub offset : ℕ
  pub is : (view s).cstore c ≡ some chan
  pub by_option : seekoffset (view s).fstore chan n mode offset
  pub passes : n24bit offset ≡ false

-- ---- the statement

pub record LimitErrs : Type 0 where
  pub seek_past : (c mode n : ℕ) → Only (Seek c mode n) BadSeek (λ s. (5 < mode) ⊎ PastPosition c mode n s)
  pub write_big : (c : ℕ) (bytes : List ℕ) → Only (Write c bytes) TooBig (Written TooLong c bytes)
  pub write_full : (c : ℕ) (bytes : List ℕ) → Only (Write c bytes) NoRoom (Written Overfull c bytes)
  pub create_none : (bytes : List ℕ) (name : NAME) → syllables bytes ≡ some name → Only (Create bytes) NoFreeFids AllFiles
  pub create_big : (bytes : List ℕ) (name : NAME) → syllables bytes ≡ some name → Only (Create bytes) TooBig (Recorded TooLong name)
  pub create_full : (bytes : List ℕ) (name : NAME) → syllables bytes ≡ some name → Only (Create bytes) NoRoom (Recorded Overfull name)
  pub mkdir_none : (bytes : List ℕ) (name : NAME) → syllables bytes ≡ some name → Only (Mkdir bytes) NoFreeFids AllFiles
  pub mkdir_big : (bytes : List ℕ) (name : NAME) → syllables bytes ≡ some name → Only (Mkdir bytes) TooBig (Recorded TooLong name)
  pub mkdir_full : (bytes : List ℕ) (name : NAME) → syllables bytes ≡ some name → Only (Mkdir bytes) NoRoom (Recorded Overfull name)
  pub link_big : (old new : List ℕ) (oldname newname : NAME) → syllables old ≡ some oldname → syllables new ≡ some newname
      → Only (Link old new) TooBig (Recorded TooLong newname)
  pub link_full : (old new : List ℕ) (oldname newname : NAME) → syllables old ≡ some oldname → syllables new ≡ some newname
      → Only (Link old new) NoRoom (Recorded Overfull newname)
  pub move_big : (old new : List ℕ) (oldname newname : NAME) → syllables old ≡ some oldname → syllables new ≡ some newname
      → Only (Move old new) TooBig (Recorded TooLong newname)
  pub move_full : (old new : List ℕ) (oldname newname : NAME) → syllables old ≡ some oldname → syllables new ≡ some newname
      → Only (Move old new) NoRoom (Recorded Overfull newname)
