-- The store: files and channels by number (the source, 4.3.3 to 4.3.12). Nothing here says where blocks lie.
use Rattle.std.specs.Prelude.{ℕ, suc, ◌-◌, List, [], ◌∷◌, reverse, Bool, not, ◌&&◌, length, take, get_or, leb, ltb, eqb}
use Rattle.records.specs.Rows.{pick, lowest, how_many, sum}
use Rattle.meaning.specs.File.{needed}
use Rattle.meaning.specs.Name.{in_directory, names_in}

-- kind 0: free, 1: ordinary, 2: directory
pub record File : Type 0 where
  pub kind : ℕ
  pub depth : ℕ
  pub bytes : List ℕ

-- the source's CHAN; file 0: the channel is free
pub record Channel : Type 0 where
  pub file : ℕ
  pub posn : ℕ

-- files are counted from 1 to file_count, channels from 0 to channel_count - 1
pub record Store : Type 0 where
  pub block_count : ℕ
  pub file_count : ℕ
  pub channel_count : ℕ
  pub file : ℕ → File
  pub channel : ℕ → Channel

abbrev pub no_file : File
no_file = record { kind = 0; depth = 0; bytes = [] }

abbrev pub ordinary : List ℕ → File
ordinary bytes = record { kind = 1; depth = 0; bytes = bytes }

abbrev pub directory : ℕ → List ℕ → File
directory depth bytes = record { kind = 2; depth = depth; bytes = bytes }

abbrev pub no_channel : Channel
no_channel = record { file = 0; posn = 0 }

abbrev pub channel_to : ℕ → ℕ → Channel
channel_to f posn = record { file = f; posn = posn }

-- file 1 is the root directory
abbrev pub root : ℕ
root = 1

-- ---- changes

-- a file as it is to be; a channel as it is to be; a prepared store
pub data Change : Type 0 where
  file : ℕ → File → Change
  channel : ℕ → Channel → Change
  prepared : Change

-- the store after a change: all else stays
unfoldable pub after : Store → Change → Store
after s (file f x) =
    record {
      block_count = s.block_count;
      file_count = s.file_count;
      channel_count = s.channel_count;
      file = λ g. pick (eqb g f) x (s.file g);
      channel = s.channel;
    }
after s (channel c y) =
    record {
      block_count = s.block_count;
      file_count = s.file_count;
      channel_count = s.channel_count;
      file = s.file;
      channel = λ d. pick (eqb d c) y (s.channel d);
    }
after s prepared =
    record {
      block_count = s.block_count;
      file_count = s.file_count;
      channel_count = s.channel_count;
      file = λ g. pick (eqb g root) (directory 0 []) no_file;
      channel = λ d. no_channel;
    }

unfoldable pub after_all : Store → List Change → Store
after_all s [] = s
after_all s (change ∷ changes) = after_all (after s change) changes

-- ---- what is in use, and what is free

-- f is the number of a file in use
unfoldable pub in_use : Store → ℕ → Bool
in_use s f = ltb 0 f && leb f s.file_count && not (eqb (s.file f).kind 0)

-- f is a directory in use
unfoldable pub is_directory : Store → ℕ → Bool
is_directory s f = in_use s f && eqb (s.file f).kind 2

-- c is the number of a channel in use
unfoldable pub is_open : Store → ℕ → Bool
is_open s c = ltb c s.channel_count && not (eqb (s.channel c).file 0)

-- the sum over files of the blocks that each needs
unfoldable pub blocks_needed : Store → ℕ
blocks_needed s = sum s.file_count (λ i. needed (length (s.file (suc i)).bytes))

unfoldable pub free_blocks : Store → ℕ
free_blocks s = s.block_count - blocks_needed s

-- the lowest free file number; above file_count where there is none
unfoldable pub free_file : Store → ℕ
free_file s = suc (lowest s.file_count (λ i. eqb (s.file (suc i)).kind 0))

-- the lowest free channel; channel_count where there is none
unfoldable pub free_channel : Store → ℕ
free_channel s = lowest s.channel_count (λ c. eqb (s.channel c).file 0)

unfoldable pub free_files : Store → ℕ
free_files s = how_many s.file_count (λ i. eqb (s.file (suc i)).kind 0)

unfoldable pub free_channels : Store → ℕ
free_channels s = how_many s.channel_count (λ c. eqb (s.channel c).file 0)

-- ---- names

-- what a syllable names in file d; nothing where d is no directory
unfoldable pub within : Store → ℕ → List ℕ → ℕ
within s d syllable = let f = in_directory (s.file d).bytes syllable in pick (is_directory s d) f 0

-- the source's rule for stored directories (4.3.11), the last syllable first:
-- it is looked up in the directory that the syllables before it name; the empty name is the root
unfoldable pub named_back : Store → List (List ℕ) → ℕ
named_back s [] = root
named_back s (last ∷ front) = within s (named_back s front) last

-- the file that a name stands for, 0 where it stands for none
unfoldable pub named : Store → List (List ℕ) → ℕ
named s name = named_back s (reverse name)

-- a name's syllables but the last, which name its directory; and its last, its name there
abbrev pub front : List (List ℕ) → List (List ℕ)
front name = take (length name - 1) name

abbrev pub last : List (List ℕ) → List ℕ
last name = get_or name (length name - 1) []

-- how many records name file f, over all directories together
unfoldable pub names : Store → ℕ → ℕ
names s f = sum s.file_count (λ i. let n = names_in (s.file (suc i)).bytes f in pick (is_directory s (suc i)) n 0)

-- a channel holds file f
unfoldable pub held : Store → ℕ → Bool
held s f = ltb 0 (how_many s.channel_count (λ c. eqb (s.channel c).file f))

-- f is an ordinary file with neither a name nor a channel
unfoldable pub is_orphan : Store → ℕ → Bool
is_orphan s f = in_use s f && eqb (s.file f).kind 1 && eqb (names s f) 0 && not (held s f)

-- departure from the source's destroy: such a file is freed by the call that took its last name or channel
unfoldable pub let_go : Store → ℕ → List Change
let_go s f = pick (is_orphan s f) (file f no_file ∷ []) []
