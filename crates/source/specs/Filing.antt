-- The complete filing system (the source, 4.3.12 to 4.3.15).
use Rattle.std.specs.Prelude.{ℕ, ◌<◌, ◌≡◌, List, true}
use Rattle.std.proofs.Math.Option.{some}
use Rattle.meaning.specs.declared.Report.{Report}
use Rattle.meaning.specs.declared.Report.TheVariants.{NoSuchCid, NoSuchName, NoFreeCids}
use Rattle.source.specs.Sets.{◌⇸◌, ℙ, ◌∈dom◌, ◌∉dom◌}
use Rattle.source.specs.Files.{FILE, FID, FSTORE, createSS, destroySS}
use Rattle.source.specs.Channels.{CHAN, CID, CSTORE, openCS, closeCS, readAS, writeAS, seekAS, fstat, seekoffset}
use Rattle.source.specs.Naming.{SYL, NAME, NSTORE, NS, createNS, lookupNS, destroyNS, lsNS, dirstored, linkNS, moveNS}

infixl 3 ◌⨾◌
-- ---- the state

pub record State : Type 0 where
  pub fstore : FSTORE
  pub cstore : CSTORE
  pub nstore : NSTORE
  pub dnames : ℙ NAME

-- usedfids: the files that a name or a channel refers to
pub data Used (x : State) (fid : FID) : Type 0 where
  by_name : (name : NAME) → x.nstore name ≡ some fid → Used x fid
  by_channel : (cid : CID) (chan : CHAN) → x.cstore cid ≡ some chan → chan.fid ≡ fid → Used x fid

pub record FS (x : State) : Type 0 where
  pub names : NS x.nstore x.dnames
  pub used : (fid : FID) → Used x fid → fid ∈dom x.fstore

pub record ΔFS (x x' : State) : Type 0 where
  pub before : FS x
  pub after : FS x'

abbrev pub ΞSS : State → State → Type 0
ΞSS x x' = x'.fstore ≡ x.fstore

abbrev pub ΞCS : State → State → Type 0
ΞCS x x' = x'.cstore ≡ x.cstore

pub record ΞNS (x x' : State) : Type 0 where
  pub names : x'.nstore ≡ x.nstore
  pub directories : x'.dnames ≡ x.dnames

-- 4.3.14, schema composition: one, then the other on the state that it leaves, which is hidden
abbrev pub ◌⨾◌ : (State → State → Type 0) → (State → State → Type 0) → State → State → Type 0
(P ⨾ Q) x x' = (m : State) × P x m × Q m x'

-- ---- operations

module _ (dirformat : FILE → SYL ⇸ FID) (RootFid : FID) where
  -- the name store written into the directories' files; no other file changes
  pub record direncode (x x' : State) : Type 0 where
    pub change : ΔFS x x'
    pub channels : ΞCS x x'
    pub names : ΞNS x x'
    pub stored : dirstored dirformat RootFid x'.fstore x'.nstore x'.dnames
    pub others : (fid : FID) → ((name : NAME) → x.dnames name ≡ true → x.nstore name ≡ some fid → ⊥) → x'.fstore fid ≡ x.fstore fid

pub record createFS0 (name : NAME) (cid : CID) (x x' : State) : Type 0 where
  pub change : ΔFS x x'
  pub fid : FID
  pub chan : CHAN
  pub file : createSS x.fstore x'.fstore fid
  pub channel : openCS x.cstore x'.cstore chan cid
  pub names : createNS x.nstore x'.nstore name fid
  pub refers : chan.fid ≡ fid
  pub existing : name ∈dom x.nstore → x.nstore name ≡ some fid
  pub new : name ∉dom x.nstore → Used x fid → ⊥

pub record openFS (name : NAME) (cid : CID) (x x' : State) : Type 0 where
  pub change : ΔFS x x'
  pub files : ΞSS x x'
  pub chan : CHAN
  pub channel : openCS x.cstore x'.cstore chan cid
  pub names : lookupNS x.nstore x'.nstore name chan.fid
  pub unchanged : ΞNS x x'

pub record readFS (cid : CID) (size : ℕ) (out : List ℕ) (x x' : State) : Type 0 where
  pub change : ΔFS x x'
  pub reads : readAS x.fstore x'.fstore x.cstore x'.cstore cid size out
  pub names : ΞNS x x'

pub record writeFS (cid : CID) (bytes : List ℕ) (x x' : State) : Type 0 where
  pub change : ΔFS x x'
  pub writes : writeAS x.fstore x'.fstore x.cstore x'.cstore cid bytes
  pub names : ΞNS x x'

-- seek with the offsets of 4.5.4, and fstat: the source states them of the access system; they do not change the name store
pub record seekFS (cid : CID) (n p offset : ℕ) (x x' : State) : Type 0 where
  pub change : ΔFS x x'
  pub seeks : seekAS x.fstore x'.fstore x.cstore x'.cstore cid offset
  pub by_option : seekoffset x.fstore seeks.chan n p offset
  pub names : ΞNS x x'

pub record fstatFS (cid : CID) (size : ℕ) (x x' : State) : Type 0 where
  pub change : ΔFS x x'
  pub stat : fstat x.fstore x'.fstore x.cstore x'.cstore cid size
  pub names : ΞNS x x'

pub record closeFS (cid : CID) (x x' : State) : Type 0 where
  pub change : ΔFS x x'
  pub files : ΞSS x x'
  pub channel : closeCS x.cstore x'.cstore cid
  pub names : ΞNS x x'

pub record unlinkFS0 (name : NAME) (x x' : State) : Type 0 where
  pub change : ΔFS x x'
  pub files : ΞSS x x'
  pub channels : ΞCS x x'
  pub names : destroyNS x.nstore x'.nstore name

pub record linkFS0 (oldname newname : NAME) (x x' : State) : Type 0 where
  pub change : ΔFS x x'
  pub files : ΞSS x x'
  pub channels : ΞCS x x'
  pub fid : FID
  pub names : linkNS x.nstore x'.nstore oldname newname fid

-- 4.3.14: moveFS before the name store is written into the directories' files
pub record moveFS0 (oldname newname : NAME) (x x' : State) : Type 0 where
  pub change : ΔFS x x'
  pub files : ΞSS x x'
  pub channels : ΞCS x x'
  pub fid : FID
  pub names : moveNS x.nstore x'.nstore oldname newname fid

-- 4.3.12, as it is first written: that the file is not in use is not said, but follows
pub record implicitDestroyFS (fid : FID) (x x' : State) : Type 0 where
  pub change : ΔFS x x'
  pub file : destroySS x.fstore x'.fstore fid
  pub channels : ΞCS x x'
  pub names : ΞNS x x'

-- the honest definition, 4.3.13
pub record destroyFS (fid : FID) (x x' : State) : Type 0 where
  pub change : ΔFS x x'
  pub file : destroySS x.fstore x'.fstore fid
  pub channels : ΞCS x x'
  pub names : ΞNS x x'
  pub unused : Used x fid → ⊥

-- 4.3.10 in the complete system: nothing changes
pub record lsFS (dir : NAME) (contents : SYL → Type 0) (x x' : State) : Type 0 where
  pub change : ΔFS x x'
  pub files : ΞSS x x'
  pub channels : ΞCS x x'
  pub lists : lsNS x.nstore x'.nstore x.dnames x'.dnames dir contents

-- ---- 4.3.15: errors. In the event of an unsuccessful report the state is unaltered

pub record CidErr (cid : CID) (report : Report) (x x' : State) : Type 0 where
  pub missing : cid ∉dom x.cstore
  pub reports : report ≡ NoSuchCid
  pub unaltered : x' ≡ x

pub record NameErr (name : NAME) (report : Report) (x x' : State) : Type 0 where
  pub missing : name ∉dom x.nstore
  pub reports : report ≡ NoSuchName
  pub unaltered : x' ≡ x

-- dom cstore = CID, where CID is the numbers below `cids`
pub record ChanErr (cids : ℕ) (report : Report) (x x' : State) : Type 0 where
  pub all : (cid : CID) → cid < cids → cid ∈dom x.cstore
  pub reports : report ≡ NoFreeCids
  pub unaltered : x' ≡ x
