-- A well-formed store in plain facts, rule by rule (01, "A store is sound when all of these hold").
use Rattle.std.specs.Prelude.{ℕ, ◌+◌, ◌%◌, ◌≤◌, ◌<◌, ◌≡◌, ◌≢◌, ◌⊎◌, List, true, false, length}
use Rattle.meaning.specs.File.{longest}
use Rattle.meaning.specs.Name.{record_count, record_at, entry_at, is_blank, is_written, same}
use Rattle.meaning.specs.Store.{Store, File, Channel, root, in_use, is_directory, names, held}
use Rattle.meaning.specs.ChannelCalls.{last_position}

-- ---- a file record

pub record FreeFile (x : File) : Type 0 where
  pub kind : x.kind ≡ 0
  pub depth : x.depth ≡ 0
  pub size : length x.bytes ≡ 0

pub record OrdinaryFile (x : File) : Type 0 where
  pub kind : x.kind ≡ 1
  pub depth : x.depth ≡ 0
  pub size : length x.bytes ≤ longest

pub record DirectoryFile (x : File) : Type 0 where
  pub kind : x.kind ≡ 2
  pub depth : x.depth ≤ 7
  pub size : length x.bytes ≤ longest
  pub whole : length x.bytes % 16 ≡ 0

pub data FileForm (x : File) : Type 0 where
  as_free_lem : FreeFile x → FileForm x
  as_ordinary_lem : OrdinaryFile x → FileForm x
  as_directory_lem : DirectoryFile x → FileForm x

-- a directory of depth 0
pub record TopDirectory (x : File) : Type 0 where
  pub kind : x.kind ≡ 2
  pub depth : x.depth ≡ 0

-- ---- a channel record

pub record FreeChannel (y : Channel) : Type 0 where
  pub file : y.file ≡ 0
  pub posn : y.posn ≡ 0

pub record OpenChannel (s : Store) (y : Channel) : Type 0 where
  pub is_in_use : in_use s y.file ≡ true
  pub posn : y.posn ≤ last_position

pub data ChannelForm (s : Store) (y : Channel) : Type 0 where
  as_free_lem : FreeChannel y → ChannelForm s y
  as_open : OpenChannel s y → ChannelForm s y

-- ---- a directory's record

pub record NamingRecord (s : Store) (dir : List ℕ) (i : ℕ) : Type 0 where
  pub is_in_use : in_use s (entry_at dir i).file ≡ true
  pub not_root : (entry_at dir i).file ≢ root
  pub written : is_written (record_at dir i) ≡ true

pub data RecordForm (s : Store) (dir : List ℕ) (i : ℕ) : Type 0 where
  as_blank : is_blank dir i ≡ true → RecordForm s dir i
  as_naming : NamingRecord s dir i → RecordForm s dir i

-- ---- a store

pub record Well (s : Store) : Type 0 where
  pub files : (f : ℕ) → 0 < f → f ≤ s.file_count → FileForm (s.file f)
  pub top : 0 < s.file_count → TopDirectory (s.file root)
  pub below : (f : ℕ) → f ≢ root → is_directory s f ≡ true → 0 < (s.file f).depth
  pub channels : (c : ℕ) → c < s.channel_count → ChannelForm s (s.channel c)
  pub records : (d i : ℕ) → is_directory s d ≡ true → i < record_count (s.file d).bytes → RecordForm s (s.file d).bytes i
  -- record i, if it is not blank, has a name that no record j before it has
  pub distinct : (d j i : ℕ) → is_directory s d ≡ true → j < i → i < record_count (s.file d).bytes → is_blank (s.file d).bytes i ≡ false
      → same (entry_at (s.file d).bytes j).name (entry_at (s.file d).bytes i).name ≡ false
  pub deeper : (d i : ℕ) → is_directory s d ≡ true → i < record_count (s.file d).bytes → is_directory s (entry_at (s.file d).bytes i).file ≡ true
      → (s.file (entry_at (s.file d).bytes i).file).depth ≡ (s.file d).depth + 1
  pub once : (f : ℕ) → is_directory s f ≡ true → f ≢ root → names s f ≡ 1
  pub kept : (f : ℕ) → in_use s f ≡ true → is_directory s f ≡ false → (0 < names s f) ⊎ (held s f ≡ true)
