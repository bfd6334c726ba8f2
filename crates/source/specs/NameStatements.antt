-- Each accepted call on names is its schema of the source, with 01's departures: freeing where the source destroys, and
-- directories, which these calls refuse, so that dnames stays. A name is given as bytes; the source's name is its syllables.
use Rattle.std.specs.Prelude.{ℕ, ◌*◌, ◌<◌, ◌≡◌, List, [], ◌∷◌, length}
use Rattle.std.proofs.Math.Option.{some}
use Rattle.meaning.specs.Name.{syllables}
use Rattle.meaning.specs.Store.{Store, after_all}
use Rattle.meaning.specs.NameCalls.{create, link, unlink, move, ls}
use Rattle.source.specs.Naming.{NAME, moveNS}
use Rattle.source.specs.Filing.{State, lsFS}
use Rattle.source.specs.Departures.{createFS, Unlinking, Linking, Moving, Moved}
use Rattle.source.specs.View.{view, Listed}
use Rattle.source.specs.Accepted.{Ready, Accepted}

-- no name of a directory comes or goes
abbrev pub SameDirectories : State → State → Type 0
SameDirectories x x' = x'.dnames ≡ x.dnames

-- ---- what holds between the store before and after an accepted call, of the numbers that it answers and the bytes for the lent buffer

-- create: the channel, one of the store's
abbrev pub OfCreate : NAME → Store → Store → List ℕ → Type 0
OfCreate name s s' numbers =
    (c : ℕ) × createFS name c (view s) (view s') × (numbers ≡ c ∷ []) × (c < s.channel_count) × SameDirectories (view s) (view s')

abbrev pub OfUnlink : NAME → Store → Store → List ℕ → Type 0
OfUnlink name s s' numbers = Unlinking name (view s) (view s') × (numbers ≡ []) × SameDirectories (view s) (view s')

abbrev pub OfLink : NAME → NAME → Store → Store → List ℕ → Type 0
OfLink oldname newname s s' numbers = Linking oldname newname (view s) (view s') × (numbers ≡ []) × SameDirectories (view s) (view s')

-- move: link and unlink composed; the name store is then as moveNS says, and of moveFS holds what Moved says
abbrev pub OfMove : NAME → NAME → Store → Store → List ℕ → Type 0
OfMove oldname newname s s' numbers =
    Moving oldname newname (view s) (view s') × (numbers ≡ []) × SameDirectories (view s) (view s')
    × ((fid : ℕ) × moveNS (view s).nstore (view s').nstore oldname newname fid)
    × Moved oldname newname (view s) (view s')

-- ls: the count, and that many rows of 14 bytes, whose syllables are the directory's contents
abbrev pub OfLs : NAME → Store → Store → List ℕ → List ℕ → Type 0
OfLs name s s' numbers out = (count : ℕ) × lsFS name (Listed count out) (view s) (view s') × (numbers ≡ count ∷ []) × (length out ≡ 14 * count)

-- ---- the statements

abbrev pub CreateHolds : Type 0
CreateHolds =
    (s : Store) → Ready s → (bytes : List ℕ) (name : NAME) → syllables bytes ≡ some name → Accepted (create bytes s) λ numbers none changes.
    OfCreate name s (after_all s changes) numbers

abbrev pub UnlinkHolds : Type 0
UnlinkHolds =
    (s : Store) → Ready s → (bytes : List ℕ) (name : NAME) → syllables bytes ≡ some name → Accepted (unlink bytes s) λ numbers none changes.
    OfUnlink name s (after_all s changes) numbers

abbrev pub LinkHolds : Type 0
LinkHolds =
    (s : Store) → Ready s → (old new : List ℕ) (oldname newname : NAME) → syllables old ≡ some oldname → syllables new ≡ some newname
    → Accepted (link old new s) λ numbers none changes. OfLink oldname newname s (after_all s changes) numbers

abbrev pub MoveHolds : Type 0
MoveHolds =
    (s : Store) → Ready s → (old new : List ℕ) (oldname newname : NAME) → syllables old ≡ some oldname → syllables new ≡ some newname
    → Accepted (move old new s) λ numbers none changes. OfMove oldname newname s (after_all s changes) numbers

abbrev pub LsHolds : Type 0
LsHolds =
    (s : Store) → Ready s → (bytes : List ℕ) (name : NAME) → syllables bytes ≡ some name → (size : ℕ) → Accepted (ls bytes size s) λ numbers out changes.
    OfLs name s (after_all s changes) numbers out
