-- Likeness (demand 3). Two sound stores are alike if they have equal sizes, file numbers, kinds, lengths, directories and
-- channels. Blocks may lie elsewhere; unused room may hold other bytes, and so may ordinary files that stand on a list.
-- Such stores give the same answers to the same calls, save bytes read from listed files, and stay alike.
use Rattle.std.specs.Prelude.{ℕ, ◌≤◌, ◌<◌, ◌≡◌, List, [], ◌∷◌, Bool, true, false, not, ◌&&◌, ◌||◌, length, drop, eqb}
use Rattle.meaning.specs.Store.{Store, Change, file, channel, prepared, after_all}
use Rattle.meaning.specs.Tables.{Tables, store_of}
use Rattle.meaning.specs.Sound.{sound}
use Rattle.meaning.specs.Run.{Call, Prepare, Room, Create, Open, Unlink, Mkdir, Rmdir, Link, Move, Ls, Close, Fstat, Read, Write, Seek, meaning, changes_of, accepted, Outcome, run}

-- ---- alike stores

-- the list: which files may hold other bytes
abbrev pub Listed : Type 0
Listed = ℕ → Bool

-- Depths are not named, nor where blocks lie.
pub record AlikeStores (listed : Listed) (s s' : Store) : Type 0 where
  pub blocks : s.block_count ≡ s'.block_count
  pub files : s.file_count ≡ s'.file_count
  pub channels : s.channel_count ≡ s'.channel_count
  -- what is listed is an ordinary file
  pub ordinary : (f : ℕ) → listed f ≡ true → (s.file f).kind ≡ 1
  pub kinds : (f : ℕ) → 0 < f → f ≤ s.file_count → (s.file f).kind ≡ (s'.file f).kind
  pub lengths : (f : ℕ) → 0 < f → f ≤ s.file_count → length (s.file f).bytes ≡ length (s'.file f).bytes
  -- directories and ordinary files that are not listed
  pub bytes : (f : ℕ) → 0 < f → f ≤ s.file_count → listed f ≡ false → (s.file f).bytes ≡ (s'.file f).bytes
  pub held : (c : ℕ) → c < s.channel_count → (s.channel c).file ≡ (s'.channel c).file
  pub positions : (c : ℕ) → c < s.channel_count → (s.channel c).posn ≡ (s'.channel c).posn

pub record Alike (listed : Listed) (t t' : Tables) : Type 0 where
  pub sound_here : sound t ≡ true
  pub sound_there : sound t' ≡ true
  pub stores : AlikeStores listed (store_of t) (store_of t')

-- ---- the same calls

-- a call, and the same again; but a write to a listed file may have other bytes, as many
pub data SameCall (listed : Listed) (s : Store) : Call → Call → Type 0 where
  same : (call : Call) → SameCall listed s call call
  other-bytes : (c : ℕ) (bytes bytes' : List ℕ) → listed (s.channel c).file ≡ true → length bytes ≡ length bytes'
      → SameCall listed s (Write c bytes) (Write c bytes')

-- ---- the list afterwards

-- a row of changes writes file f anew
unfoldable pub rewrites : List Change → ℕ → Bool
rewrites [] f = false
rewrites (file g x ∷ changes) f = eqb g f || rewrites changes f
rewrites (channel c y ∷ changes) f = rewrites changes f
rewrites (prepared ∷ changes) f = rewrites changes f

unfoldable pub is_create : Call → Bool
is_create (Create name) = true
is_create Prepare = false
is_create Room = false
is_create (Open name) = false
is_create (Unlink name) = false
is_create (Mkdir name) = false
is_create (Rmdir name) = false
is_create (Link old new) = false
is_create (Move old new) = false
is_create (Ls name size) = false
is_create (Close c) = false
is_create (Fstat c) = false
is_create (Read c count) = false
is_create (Write c bytes) = false
is_create (Seek c mode n) = false

-- create empties file f, which its name stands for
unfoldable pub empties : Call → Store → ℕ → Bool
empties call s f = is_create call && rewrites (changes_of (meaning call s)) f

-- the store that a call leaves
abbrev pub left : Call → Store → Store
left call s = after_all s (changes_of (meaning call s))

-- a file leaves the list when it is freed, as all are by prepare, or emptied by create
unfoldable pub listed_after : Listed → Call → Store → Listed
listed_after listed call s f = listed f && eqb ((left call s).file f).kind 1 && not (empties call s f)

-- ---- alike outcomes

-- the call reads no bytes from a listed file
abbrev pub ReadsUnlisted : Listed → Store → Call → Type 0
ReadsUnlisted listed s call = (c count : ℕ) → call ≡ Read c count → listed (s.channel c).file ≡ false

-- the same answer, the same buffer save bytes read from a listed file, and stores that are alike again
pub record AlikeOutcomes (listed : Listed) (s : Store) (call : Call) (o o' : Outcome) : Type 0 where
  pub answers : o.answer ≡ o'.answer
  pub buffers : ReadsUnlisted listed s call → o.buffer ≡ o'.buffer
  pub sizes : length o.buffer ≡ length o'.buffer
  -- behind the n bytes that a call read
  pub rests : (c count n : ℕ) → call ≡ Read c count → o.answer ≡ accepted (n ∷ []) → drop n o.buffer ≡ drop n o'.buffer
  pub stay : Alike (listed_after listed call s) o.tables o'.tables

-- ---- rows of calls

-- a call, the call that the other store gets, and the buffer that both are lent
pub record Step : Type 0 where
  pub call : Call
  pub other : Call
  pub buffer : List ℕ

abbrev pub SameCalls : Listed → Tables → List Step → Type 0
SameCalls listed t [] = Unit {0}
SameCalls listed t (x ∷ xs) =
    SameCall listed (store_of t) x.call x.other
    × SameCalls (listed_after listed x.call (store_of t)) (run x.call t x.buffer).tables xs

-- every outcome, step by step, on tables t and t'
abbrev pub AlikeThroughout : Listed → Tables → Tables → List Step → Type 0
AlikeThroughout listed t t' [] = Alike listed t t'
AlikeThroughout listed t t' (x ∷ xs) =
    let o = run x.call t x.buffer in
    let o' = run x.other t' x.buffer in
    AlikeOutcomes listed (store_of t) x.call o o'
    × AlikeThroughout (listed_after listed x.call (store_of t)) o.tables o'.tables xs

-- the demand
abbrev pub Demanded : Type 0
Demanded = (listed : Listed) (t t' : Tables) (row : List Step) → Alike listed t t' → SameCalls listed t row → AlikeThroughout listed t t' row
