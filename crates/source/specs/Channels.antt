-- Channels, the channel system and the access system (the source, 4.3.6 to 4.3.8), and seek's offsets (4.5.4).
use Rattle.std.specs.Prelude.{ℕ, ◌+◌, ◌*◌, ◌≤◌, ◌≡◌, List, length}
use Rattle.std.proofs.Math.Option.{some}
use Rattle.source.specs.Sets.{◌⇸◌, ◌∈dom◌, ◌∉dom◌, ◌⊕◌, ◌⩤◌, ◌⟼◌, the}
use Rattle.source.specs.Files.{FILE, FID, FSTORE, readSS, writeSS}

-- ---- 4.3.6

pub record CHAN : Type 0 where
  pub fid : FID
  pub posn : ℕ

pub record ΔCHAN (chan chan' : CHAN) : Type 0 where
  pub fid : chan'.fid ≡ chan.fid

pub record readCHAN (fstore fstore' : FSTORE) (chan chan' : CHAN) (file file' : FILE) (size : ℕ) (out : List ℕ) : Type 0 where
  pub reads : readSS fstore fstore' chan.fid file file' chan.posn size out
  pub channel : ΔCHAN chan chan'
  pub posn : chan'.posn ≡ chan.posn + length out

pub record writeCHAN (fstore fstore' : FSTORE) (chan chan' : CHAN) (file file' : FILE) (bytes : List ℕ) : Type 0 where
  pub writes : writeSS fstore fstore' chan.fid file file' chan.posn bytes
  pub channel : ΔCHAN chan chan'
  pub posn : chan'.posn ≡ chan.posn + length bytes

pub record seekCHAN (fstore fstore' : FSTORE) (chan chan' : CHAN) (newposn : ℕ) : Type 0 where
  pub channel : ΔCHAN chan chan'
  pub files : fstore' ≡ fstore
  pub posn : chan'.posn ≡ newposn

-- ---- 4.3.7: CS

abbrev pub CID : Type 0
CID = ℕ

abbrev pub CSTORE : Type 0
CSTORE = CID ⇸ CHAN

pub record openCS (cstore cstore' : CSTORE) (chan : CHAN) (cid : CID) : Type 0 where
  pub new : cid ∉dom cstore
  pub start : chan.posn ≡ 0
  pub opens : cstore' ≡ cstore ⊕ the cid ⟼ chan

pub record closeCS (cstore cstore' : CSTORE) (cid : CID) : Type 0 where
  pub exists : cid ∈dom cstore
  pub closes : cstore' ≡ the cid ⩤ cstore

-- ---- 4.3.8: AS

-- every channel refers to an existing file
pub record AS (fstore : FSTORE) (cstore : CSTORE) : Type 0 where
  pub refers : (cid : CID) (chan : CHAN) → cstore cid ≡ some chan → chan.fid ∈dom fstore

pub record ΔAS (fstore fstore' : FSTORE) (cstore cstore' : CSTORE) : Type 0 where
  pub before : AS fstore cstore
  pub after : AS fstore' cstore'

pub record ΦAS (fstore fstore' : FSTORE) (cstore cstore' : CSTORE) (cid : CID) (chan chan' : CHAN) : Type 0 where
  pub access : ΔAS fstore fstore' cstore cstore'
  pub channel : ΔCHAN chan chan'
  pub is : cstore cid ≡ some chan
  pub others : cstore' ≡ cstore ⊕ the cid ⟼ chan'

-- what the source hides is a field here
pub record readAS (fstore fstore' : FSTORE) (cstore cstore' : CSTORE) (cid : CID) (size : ℕ) (out : List ℕ) : Type 0 where
  pub chan : CHAN
  pub chan' : CHAN
  pub file : FILE
  pub file' : FILE
  pub frame : ΦAS fstore fstore' cstore cstore' cid chan chan'
  pub reads : readCHAN fstore fstore' chan chan' file file' size out

pub record writeAS (fstore fstore' : FSTORE) (cstore cstore' : CSTORE) (cid : CID) (bytes : List ℕ) : Type 0 where
  pub chan : CHAN
  pub chan' : CHAN
  pub file : FILE
  pub file' : FILE
  pub frame : ΦAS fstore fstore' cstore cstore' cid chan chan'
  pub writes : writeCHAN fstore fstore' chan chan' file file' bytes

pub record seekAS (fstore fstore' : FSTORE) (cstore cstore' : CSTORE) (cid : CID) (newposn : ℕ) : Type 0 where
  pub chan : CHAN
  pub chan' : CHAN
  pub frame : ΦAS fstore fstore' cstore cstore' cid chan chan'
  pub seeks : seekCHAN fstore fstore' chan chan' newposn

pub record fstat (fstore fstore' : FSTORE) (cstore cstore' : CSTORE) (cid : CID) (size : ℕ) : Type 0 where
  pub access : ΔAS fstore fstore' cstore cstore'
  pub chan : CHAN
  pub file : FILE
  pub is : cstore cid ≡ some chan
  pub files : fstore' ≡ fstore
  pub channels : cstore' ≡ cstore
  pub of : fstore chan.fid ≡ some file
  pub answers : size ≡ length file

-- ---- 4.5.4: the offset that seek goes to, by the option p

pub record seekoffset (fstore : FSTORE) (chan : CHAN) (n p offset : ℕ) : Type 0 where
  pub options : p ≤ 5
  pub file : FILE
  pub of : fstore chan.fid ≡ some file
  pub start : p ≡ 0 → offset ≡ n
  pub current : p ≡ 1 → offset ≡ chan.posn + n
  pub end : p ≡ 2 → offset ≡ length file + n
  pub start_512 : p ≡ 3 → offset ≡ 512 * n
  pub current_512 : p ≡ 4 → offset ≡ chan.posn + 512 * n
  pub end-512 : p ≡ 5 → offset ≡ length file + 512 * n
