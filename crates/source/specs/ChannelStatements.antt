-- Each accepted call on a channel is its schema of the source, with 01's departures: freeing where the source destroys, and the
-- further answers of fstat.
use Rattle.std.specs.Prelude.{ℕ, ◌≤◌, ◌<◌, ◌≡◌, List, [], ◌∷◌, length}
use Rattle.std.proofs.Math.Option.{some}
use Rattle.meaning.specs.Name.{syllables}
use Rattle.meaning.specs.Store.{Store, after_all}
use Rattle.meaning.specs.ChannelCalls.{close, read, write, seek, fstat, last_position}
use Rattle.meaning.specs.NameCalls.{open'}
use Rattle.source.specs.Naming.{NAME}
use Rattle.source.specs.Filing.{openFS, readFS, writeFS, seekFS, fstatFS}
use Rattle.source.specs.Departures.{Closing}
use Rattle.source.specs.View.{view}
use Rattle.source.specs.Accepted.{Ready, Accepted}

-- ---- what holds between the store before and after an accepted call, of the numbers that it answers and the bytes for the lent buffer

-- read: the bytes, and their count
abbrev pub OfRead : ℕ → ℕ → Store → Store → List ℕ → List ℕ → Type 0
OfRead c count s s' numbers out = readFS c count out (view s) (view s') × (numbers ≡ length out ∷ [])

-- write: the count of bytes
abbrev pub OfWrite : ℕ → List ℕ → Store → Store → List ℕ → Type 0
OfWrite c bytes s s' numbers = writeFS c bytes (view s) (view s') × (numbers ≡ length bytes ∷ [])

-- seek: the new position, which has 24 bits (4.5.5)
abbrev pub OfSeek : ℕ → ℕ → ℕ → Store → Store → List ℕ → Type 0
OfSeek c mode n s s' numbers = (offset : ℕ) × seekFS c n mode offset (view s) (view s') × (numbers ≡ offset ∷ []) × (offset ≤ last_position)

-- fstat: the size; besides, the file's number, which the source hides, and its kind
abbrev pub OfFstat : ℕ → Store → Store → List ℕ → Type 0
OfFstat c s s' numbers =
    (size : ℕ) × (stat : fstatFS c size (view s) (view s'))
    × (numbers ≡ size ∷ stat.stat.chan.fid ∷ (s.file stat.stat.chan.fid).kind ∷ [])

-- close, and the freeing of a file that it leaves without name and channel
abbrev pub OfClose : ℕ → Store → Store → List ℕ → Type 0
OfClose c s s' numbers = Closing c (view s) (view s') × (numbers ≡ [])

-- open: the channel, one of the store's
abbrev pub OfOpen : NAME → Store → Store → List ℕ → Type 0
OfOpen name s s' numbers = (c : ℕ) × openFS name c (view s) (view s') × (numbers ≡ c ∷ []) × (c < s.channel_count)

-- ---- the statements

abbrev pub ReadHolds : Type 0
ReadHolds =
    (s : Store) → Ready s → (c count : ℕ) → Accepted (read c count s) λ numbers out changes.
    OfRead c count s (after_all s changes) numbers out

abbrev pub WriteHolds : Type 0
WriteHolds =
    (s : Store) → Ready s → (c : ℕ) (bytes : List ℕ) → Accepted (write c bytes s) λ numbers none changes.
    OfWrite c bytes s (after_all s changes) numbers

abbrev pub SeekHolds : Type 0
SeekHolds =
    (s : Store) → Ready s → (c mode n : ℕ) → Accepted (seek c mode n s) λ numbers none changes.
    OfSeek c mode n s (after_all s changes) numbers

abbrev pub FstatHolds : Type 0
FstatHolds =
    (s : Store) → Ready s → (c : ℕ) → Accepted (fstat c s) λ numbers none changes.
    OfFstat c s (after_all s changes) numbers

abbrev pub CloseHolds : Type 0
CloseHolds =
    (s : Store) → Ready s → (c : ℕ) → Accepted (close c s) λ numbers none changes.
    OfClose c s (after_all s changes) numbers

abbrev pub OpenHolds : Type 0
OpenHolds =
    (s : Store) → Ready s → (bytes : List ℕ) (name : NAME) → syllables bytes ≡ some name → Accepted (open' bytes s) λ numbers none changes.
    OfOpen name s (after_all s changes) numbers
