-- The source's errors (4.3.15): each is reported exactly where it holds and no earlier cause of 01's lists does.
-- In the event of an unsuccessful report the state is unaltered.
use Rattle.std.specs.Prelude.{ℕ, ◌<◌, ◌≡◌, ◌≢◌, ◌⊎◌, ◌↔◌, List, true, false}
use Rattle.std.proofs.Math.Option.{some}
use Rattle.meaning.specs.Name.{syllables}
use Rattle.meaning.specs.Store.{Store, after_all, front}
use Rattle.meaning.specs.Result.{Result, refused, done}
use Rattle.meaning.specs.ChannelCalls.{read}
use Rattle.meaning.specs.NameCalls.{open'}
use Rattle.meaning.specs.Run.{Call, Create, Open, Unlink, Link, Move, Ls, Close, Fstat, Read, Write, Seek, meaning, bytes_of, changes_of}
use Rattle.meaning.specs.declared.Report.{Report}
use Rattle.meaning.specs.declared.Report.TheVariants.{Ok, NoSuchCid, NoSuchName, NoFreeCids, IsDirectory}
use Rattle.source.specs.Sets.{◌∈dom◌, ◌∉dom◌}
use Rattle.source.specs.Channels.{CHAN}
use Rattle.source.specs.Naming.{NAME}
use Rattle.source.specs.Filing.{State, readFS, openFS, CidErr, NameErr, ChanErr}
use Rattle.source.specs.View.{view}
use Rattle.source.specs.Accepted.{Ready}

-- the source's report!; success is report! = Ok
unfoldable pub report_of : Result → Report
report_of (refused why) = why
report_of (done numbers bytes changes) = Ok

-- the store that a call leaves
abbrev pub left_by : Store → Result → Store
left_by s r = after_all s (changes_of r)

-- ΔFS with a report: report! ≠ Ok ⇒ θFS' = θFS
abbrev pub UnalteredHolds : Type 0
UnalteredHolds = (s : Store) (call : Call) → report_of (meaning call s) ≢ Ok → left_by s (meaning call s) ≡ s

-- ---- a cause is told by a report: the call gives the report exactly where the cause holds

-- of what a call gives on any store, and on a store that calls take; of outcomes in OutcomeStatements
abbrev pub OnStores : Call → Report → (Store → Type 0) → Type 0
OnStores call why cause = (s : Store) → (report_of (meaning call s) ≡ why) ↔ cause s

abbrev pub OnReady : Call → Report → (Store → Type 0) → Type 0
OnReady call why cause = (s : Store) → Ready s → (report_of (meaning call s) ≡ why) ↔ cause s

-- ---- NoSuchCid: close, read, write, seek and fstat list it first

abbrev pub NoChannel : ℕ → Store → Type 0
NoChannel c s = c ∉dom (view s).cstore

pub record CidErrs (Told : Call → Report → (Store → Type 0) → Type 0) : Type 0 where
  pub of_close : (c : ℕ) → Told (Close c) NoSuchCid (NoChannel c)
  pub of_read : (c count : ℕ) → Told (Read c count) NoSuchCid (NoChannel c)
  pub of_write : (c : ℕ) (bytes : List ℕ) → Told (Write c bytes) NoSuchCid (NoChannel c)
  pub of_seek : (c mode n : ℕ) → Told (Seek c mode n) NoSuchCid (NoChannel c)
  pub of_fstat : (c : ℕ) → Told (Fstat c) NoSuchCid (NoChannel c)

-- ---- NoSuchName: the name must stand for a file; a name that is given, its directory

abbrev pub Missing : State → NAME → Type 0
Missing x name = name ∉dom x.nstore

-- 01's own cause: a new name whose directory is missing
abbrev pub Nowhere : State → NAME → Type 0
Nowhere x name = (name ∉dom x.nstore) × (x.dnames (front name) ≡ false)

-- of a name that is to be linked or moved, and of the name that it is to have
abbrev pub NoLink : State → NAME → NAME → Type 0
NoLink x oldname newname = Missing x oldname ⊎ ((oldname ∈dom x.nstore) × (x.dnames oldname ≡ false) × Nowhere x newname)

pub record NameErrs (Told Told' : Call → Report → (Store → Type 0) → Type 0) : Type 0 where
  pub of_open : (bytes : List ℕ) (name : NAME) → syllables bytes ≡ some name → Told (Open bytes) NoSuchName (λ s. Missing (view s) name)
  pub of_unlink : (bytes : List ℕ) (name : NAME) → syllables bytes ≡ some name → Told (Unlink bytes) NoSuchName (λ s. Missing (view s) name)
  pub of_ls : (bytes : List ℕ) (name : NAME) → syllables bytes ≡ some name → (size : ℕ) → Told (Ls bytes size) NoSuchName (λ s. Missing (view s) name)
  pub of_create : (bytes : List ℕ) (name : NAME) → syllables bytes ≡ some name → Told (Create bytes) NoSuchName (λ s. Nowhere (view s) name)
  pub of_link : (old new : List ℕ) (oldname newname : NAME) → syllables old ≡ some oldname → syllables new ≡ some newname
      → Told' (Link old new) NoSuchName (λ s. NoLink (view s) oldname newname)
  pub of_move : (old new : List ℕ) (oldname newname : NAME) → syllables old ≡ some oldname → syllables new ≡ some newname
      → Told' (Move old new) NoSuchName (λ s. NoLink (view s) oldname newname)

-- ---- NoFreeCids: all channels are open

abbrev pub NoneFree : Store → Type 0
NoneFree s = (c : ℕ) → c < s.channel_count → c ∈dom (view s).cstore

pub record ChanErrs (Told : Call → Report → (Store → Type 0) → Type 0) : Type 0 where
  pub of_open : (bytes : List ℕ) (name : NAME) → syllables bytes ≡ some name → Told (Open bytes) NoFreeCids (λ s. (name ∈dom (view s).nstore) × NoneFree s)
  pub of_create : (bytes : List ℕ) (name : NAME) → syllables bytes ≡ some name
      → Told (Create bytes) NoFreeCids (λ s. (Nowhere (view s) name → ⊥) × ((view s).dnames name ≡ false) × NoneFree s)

-- ---- IsDirectory, a departure: create, write, link, unlink and move refuse directories

-- a directory's name stands for the file
pub record NamesDirectory (x : State) (fid : ℕ) : Type 0 where
  pub name : NAME
  pub directory : x.dnames name ≡ true
  pub named : x.nstore name ≡ some fid

-- the channel is there, and refers to a directory
pub record HoldsDirectory (x : State) (c : ℕ) : Type 0 where
  pub chan : CHAN
  pub is : x.cstore c ≡ some chan
  pub of : NamesDirectory x chan.fid

-- the old name is a directory's; or it is an ordinary file's, and the new one a directory's
abbrev pub EitherDirectory : State → NAME → NAME → Type 0
EitherDirectory x oldname newname = (x.dnames oldname ≡ true) ⊎ ((oldname ∈dom x.nstore) × (x.dnames oldname ≡ false) × (x.dnames newname ≡ true))

pub record DirectoryErrs (Told Told' : Call → Report → (Store → Type 0) → Type 0) : Type 0 where
  pub of_write : (c : ℕ) (bytes : List ℕ) → Told' (Write c bytes) IsDirectory (λ s. HoldsDirectory (view s) c)
  pub of_create : (bytes : List ℕ) (name : NAME) → syllables bytes ≡ some name → Told (Create bytes) IsDirectory (λ s. (view s).dnames name ≡ true)
  pub of_unlink : (bytes : List ℕ) (name : NAME) → syllables bytes ≡ some name → Told (Unlink bytes) IsDirectory (λ s. (view s).dnames name ≡ true)
  pub of_link : (old new : List ℕ) (oldname newname : NAME) → syllables old ≡ some oldname → syllables new ≡ some newname
      → Told' (Link old new) IsDirectory (λ s. EitherDirectory (view s) oldname newname)
  pub of_move : (old new : List ℕ) (oldname newname : NAME) → syllables old ≡ some oldname → syllables new ≡ some newname
      → Told' (Move old new) IsDirectory (λ s. EitherDirectory (view s) oldname newname)

-- ---- figures 4.1 and 4.2: the operations with their errors

-- read ≙ (readFS ∧ success) ∨ CidErr
abbrev pub ReadIs : Type 0
ReadIs =
    (s : Store) → Ready s → (c count : ℕ) →
    let r = read c count s in
    let x = view s in
    let x' = view (left_by s r) in
    (readFS c count (bytes_of r) x x' × (report_of r ≡ Ok)) ⊎ CidErr c (report_of r) x x'

-- open ≙ (openFS ∧ success) ∨ NameErr ∨ ChanErr
abbrev pub OpenIs : Type 0
OpenIs =
    (s : Store) → Ready s → (bytes : List ℕ) (name : NAME) → syllables bytes ≡ some name →
    let r = open' bytes s in
    let x = view s in
    let x' = view (left_by s r) in
    (((c : ℕ) × openFS name c x x') × (report_of r ≡ Ok)) ⊎ NameErr name (report_of r) x x' ⊎ ChanErr s.channel_count (report_of r) x x'
