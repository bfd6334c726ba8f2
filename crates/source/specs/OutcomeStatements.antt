-- The source's schemas hold of outcomes that keep the promise: between the states of the tables as a call was lent them and as it
-- leaves them, with the outcome's own numbers and the first bytes of its lent buffer as the schema's outputs.
use Rattle.std.specs.Prelude.{ℕ, ◌*◌, ◌≡◌, ◌≢◌, ◌⊎◌, ◌↔◌, List, [], ◌∷◌, true, take, get_or, replicate}
use Rattle.std.proofs.Math.Option.{some}
use Rattle.meaning.specs.Name.{syllables}
use Rattle.meaning.specs.Store.{Store}
use Rattle.meaning.specs.Tables.{Tables, store_of}
use Rattle.meaning.specs.Sound.{sound}
use Rattle.meaning.specs.Run.{Call, Prepare, Room, Create, Open, Unlink, Mkdir, Rmdir, Link, Move, Ls, Close, Fstat, Read, Write, Seek, width, number_of, accepted, Outcome, Promise}
use Rattle.meaning.specs.declared.Report.{Report}
use Rattle.meaning.specs.declared.Report.TheVariants.{Ok}
use Rattle.source.specs.Naming.{NAME}
use Rattle.source.specs.Filing.{State, readFS, openFS, CidErr, NameErr, ChanErr}
use Rattle.source.specs.View.{view}
use Rattle.source.specs.ChannelStatements.{OfRead, OfWrite, OfSeek, OfFstat, OfClose, OfOpen}
use Rattle.source.specs.ErrorStatements.{CidErrs, NameErrs, ChanErrs, DirectoryErrs}
use Rattle.source.specs.NameStatements.{OfCreate, OfUnlink, OfLink, OfMove, OfLs}

-- the source's state of tables
abbrev pub state_of : Tables → State
state_of t = view (store_of t)

-- ---- accepted calls

-- a name as bytes is written as a name, and this holds of its syllables
abbrev pub Spelled : List ℕ → (NAME → Type 0) → Type 0
Spelled bytes P = (name : NAME) × (syllables bytes ≡ some name) × P name

-- the schema of each call, between two stores, of the numbers that it answers and the bytes for the lent buffer.
-- prepare, room, make directory and remove directory are 01's own: the source has no schema for them
unfoldable pub Schema : Call → Store → Store → List ℕ → List ℕ → Type 0
Schema (Read c count) s s' numbers out = OfRead c count s s' numbers out
Schema (Write c bytes) s s' numbers out = OfWrite c bytes s s' numbers
Schema (Seek c mode n) s s' numbers out = OfSeek c mode n s s' numbers
Schema (Fstat c) s s' numbers out = OfFstat c s s' numbers
Schema (Close c) s s' numbers out = OfClose c s s' numbers
Schema (Open bytes) s s' numbers out = Spelled bytes λ name. OfOpen name s s' numbers
Schema (Create bytes) s s' numbers out = Spelled bytes λ name. OfCreate name s s' numbers
Schema (Unlink bytes) s s' numbers out = Spelled bytes λ name. OfUnlink name s s' numbers
Schema (Link old new) s s' numbers out = Spelled old λ oldname. Spelled new λ newname. OfLink oldname newname s s' numbers
Schema (Move old new) s s' numbers out = Spelled old λ oldname. Spelled new λ newname. OfMove oldname newname s s' numbers
Schema (Ls bytes size) s s' numbers out = Spelled bytes λ name. OfLs name s s' numbers out
Schema Prepare s s' numbers out = Unit {0}
Schema Room s s' numbers out = Unit {0}
Schema (Mkdir bytes) s s' numbers out = Unit {0}
Schema (Rmdir bytes) s s' numbers out = Unit {0}

-- how many bytes of the lent buffer the numbers tell of: as many as read counts; rows of 14 bytes as ls counts
unfoldable pub shown : Call → List ℕ → ℕ
shown (Read c count) numbers = get_or numbers 0 0
shown (Ls bytes size) numbers = 14 * get_or numbers 0 0
shown (Write c bytes) numbers = 0
shown (Seek c mode n) numbers = 0
shown (Fstat c) numbers = 0
shown (Close c) numbers = 0
shown (Open bytes) numbers = 0
shown (Create bytes) numbers = 0
shown (Unlink bytes) numbers = 0
shown (Link old new) numbers = 0
shown (Move old new) numbers = 0
shown Prepare numbers = 0
shown Room numbers = 0
shown (Mkdir bytes) numbers = 0
shown (Rmdir bytes) numbers = 0

-- sound tables, and an outcome that keeps the promise of a call on them
abbrev pub Kept : Call → Tables → List ℕ → Outcome → Type 0
Kept call t buffer o = (sound t ≡ true) × Promise call t buffer o

-- T5: an answer that begins with 0 is the schema's
abbrev pub OutcomeHolds : Type 0
OutcomeHolds =
    (call : Call) (t : Tables) (buffer : List ℕ) (o : Outcome) → Kept call t buffer o → (numbers : List ℕ) → o.answer ≡ accepted numbers
    → Schema call (store_of t) (store_of o.tables) numbers (take (shown call numbers) o.buffer)

-- ---- refused calls

-- report! ≠ Ok ⇒ θFS' = θFS, of any tables: all bytes stay, the lent buffer's too, and every other number is zero
abbrev pub RefusedUnaltered : Type 0
RefusedUnaltered =
    (call : Call) (t : Tables) (buffer : List ℕ) (o : Outcome) → Promise call t buffer o → (why : Report) → why ≢ Ok → (numbers : List ℕ) → o.answer ≡ number_of why ∷ numbers
    → (numbers ≡ replicate (width call) 0) × (o.buffer ≡ buffer) × (o.tables ≡ t) × (state_of o.tables ≡ state_of t)

-- an outcome reports an error exactly where its cause holds of the store that the tables hold (the causes of ErrorStatements)
abbrev pub OnOutcomes : Call → Report → (Store → Type 0) → Type 0
OnOutcomes call why cause =
    (t : Tables) (buffer : List ℕ) (o : Outcome) → Kept call t buffer o
    → ((numbers : List ℕ) × (o.answer ≡ number_of why ∷ numbers)) ↔ cause (store_of t)

pub record OutcomeErrs : Type 0 where
  pub channels : CidErrs OnOutcomes
  pub names : NameErrs OnOutcomes OnOutcomes
  pub free : ChanErrs OnOutcomes
  pub directories : DirectoryErrs OnOutcomes OnOutcomes

-- ---- figures 4.1 and 4.2 of outcomes

-- read ≙ (readFS ∧ success) ∨ CidErr
abbrev pub ReadOutcome : Type 0
ReadOutcome =
    (c count : ℕ) (t : Tables) (buffer : List ℕ) (o : Outcome) → Kept (Read c count) t buffer o
    → (report : Report) × (number : ℕ) × (o.answer ≡ number_of report ∷ number ∷ [])
    × ((readFS c count (take number o.buffer) (state_of t) (state_of o.tables) × (report ≡ Ok)) ⊎ CidErr c report (state_of t) (state_of o.tables))

-- open ≙ (openFS ∧ success) ∨ NameErr ∨ ChanErr, of a name that is written as one
abbrev pub OpenOutcome : Type 0
OpenOutcome =
    (bytes : List ℕ) (name : NAME) → syllables bytes ≡ some name → (t : Tables) (buffer : List ℕ) (o : Outcome) → Kept (Open bytes) t buffer o
    → (report : Report) × (cid : ℕ) × (o.answer ≡ number_of report ∷ cid ∷ [])
    × ((openFS name cid (state_of t) (state_of o.tables) × (report ≡ Ok)) ⊎ NameErr name report (state_of t) (state_of o.tables) ⊎ ChanErr (store_of t).channel_count report (state_of t) (state_of o.tables))
