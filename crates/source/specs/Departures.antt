-- The source's operations with 01's departure from its destroy: no destroy is asked for; the call that takes a file's last name
-- or channel destroys it. Directories keep their names, and are never destroyed so.
use Rattle.std.specs.Prelude.{◌≡◌}
use Rattle.std.proofs.Math.Option.{some}
use Rattle.source.specs.Sets.{◌∉dom◌}
use Rattle.source.specs.Files.{FID}
use Rattle.source.specs.Channels.{CHAN, CID}
use Rattle.source.specs.Naming.{NAME}
use Rattle.source.specs.Filing.{State, Used, ◌⨾◌, destroyFS, closeFS, createFS0, unlinkFS0, linkFS0, moveFS0, direncode}
use Rattle.source.specs.View.{dirformat, RootFid}

-- a file that is still referred to stays; one that is not is destroyed, as the source destroys it
pub data Freeing (fid : FID) (x x' : State) : Type 0 where
  stays : Used x fid → x' ≡ x → Freeing fid x x'
  goes : destroyFS fid x x' → Freeing fid x x'

-- what a name stood for, if it stood for anything
pub data Replacing (old : State) (name : NAME) (x x' : State) : Type 0 where
  nothing : name ∉dom old.nstore → x' ≡ x → Replacing old name x x'
  something : (fid : FID) → old.nstore name ≡ some fid → Freeing fid x x' → Replacing old name x x'

-- close
pub record Closing (cid : CID) (x x' : State) : Type 0 where
  pub chan : CHAN
  pub is : x.cstore cid ≡ some chan
  pub closes : (closeFS cid ⨾ Freeing chan.fid) x x'

-- createFS ≙ createFS0 ⨾ direncode, and so on
abbrev pub createFS : NAME → CID → State → State → Type 0
createFS name cid = createFS0 name cid ⨾ direncode dirformat RootFid

abbrev pub unlinkFS : NAME → State → State → Type 0
unlinkFS name = unlinkFS0 name ⨾ direncode dirformat RootFid

abbrev pub linkFS : NAME → NAME → State → State → Type 0
linkFS oldname newname = linkFS0 oldname newname ⨾ direncode dirformat RootFid

-- moveFS ≙ (ΔFS ∧ ΞSS ∧ ΞCS ∧ moveNS) ⨾ direncode
abbrev pub moveFS : NAME → NAME → State → State → Type 0
moveFS oldname newname = moveFS0 oldname newname ⨾ direncode dirformat RootFid

-- unlink
pub record Unlinking (name : NAME) (x x' : State) : Type 0 where
  pub fid : FID
  pub is : x.nstore name ≡ some fid
  pub unlinks : (unlinkFS name ⨾ Freeing fid) x x'

-- link
abbrev pub Linking : NAME → NAME → State → State → Type 0
Linking oldname newname x = (linkFS oldname newname ⨾ Replacing x newname) x

-- move, by 01: link, then unlink of the old name, each with its freeing
abbrev pub Moving : NAME → NAME → State → State → Type 0
Moving oldname newname = Linking oldname newname ⨾ Unlinking oldname

-- what of moveFS holds of such a move
pub record Moved (oldname newname : NAME) (x x' : State) : Type 0 where
  -- it is moveFS, and then the freeing of what the new name stood for, as link frees it
  pub moves : (moveFS oldname newname ⨾ Replacing x newname) x x'
  -- where the new name stood for nothing, or for a file that is still referred to, it is moveFS itself
  pub itself : ((fid : FID) → x.nstore newname ≡ some fid → Used x' fid) → moveFS oldname newname x x'
  -- where it stood for a file that is no longer referred to, it is not: moveFS keeps every file, and leaves that one to destroy
  pub not_itself : (fid : FID) → x.nstore newname ≡ some fid → (Used x' fid → ⊥) → moveFS oldname newname x x' → ⊥
  -- the old name is gone, also where it is the new name too
  pub gone : oldname ∉dom x'.nstore
