-- The naming system, pathnames and directories, directories as files (the source, 4.3.9 to 4.3.11 and 4.3.14).
use Rattle.std.specs.Prelude.{ℕ, ◌≡◌, ◌≢◌, ◌↔◌, List, [], true}
use Rattle.std.proofs.Math.Option.{Option, none, some}
use Rattle.meaning.specs.Store.{front, last}
use Rattle.source.specs.Sets.{◌⇸◌, ℙ, ◌∈dom◌, ◌⊕◌, ◌⩤◌, ◌⟼◌, the_name}
use Rattle.source.specs.Files.{FILE, FID, FSTORE}

abbrev pub SYL : Type 0
SYL = List ℕ

abbrev pub NAME : Type 0
NAME = List SYL

abbrev pub NSTORE : Type 0
NSTORE = NAME ⇸ FID

-- ---- 4.3.9: NS0. The boxes of createNS, destroyNS and moveNS are read from the text around them, where the scan has lost them

pub record createNS (nstore nstore' : NSTORE) (name : NAME) (fid : FID) : Type 0 where
  pub creates : nstore' ≡ nstore ⊕ the_name name ⟼ fid

pub record lookupNS (nstore nstore' : NSTORE) (name : NAME) (fid : FID) : Type 0 where
  pub is : nstore name ≡ some fid
  pub stays : nstore' ≡ nstore

pub record destroyNS (nstore nstore' : NSTORE) (name : NAME) : Type 0 where
  pub exists : name ∈dom nstore
  pub destroys : nstore' ≡ the_name name ⩤ nstore

-- ---- 4.3.10: NS

-- the front of every name, of a file or of a directory, is a directory's name
pub record NS (nstore : NSTORE) (dnames : ℙ NAME) : Type 0 where
  pub file-front : (name : NAME) → name ≢ [] → name ∈dom nstore → dnames (front name) ≡ true
  pub directory-front : (name : NAME) → name ≢ [] → dnames name ≡ true → dnames (front name) ≡ true

-- a syllable that is the last of a name in the directory
pub record Content (nstore : NSTORE) (dir : NAME) (syllable : SYL) : Type 0 where
  pub name : NAME
  pub named : name ∈dom nstore
  pub more : name ≢ []
  pub lies : front name ≡ dir
  pub ends : last name ≡ syllable

pub record lsNS (nstore nstore' : NSTORE) (dnames dnames' : ℙ NAME) (dir : NAME) (contents : SYL → Type 0) : Type 0 where
  pub stays : nstore' ≡ nstore
  pub stay : dnames' ≡ dnames
  pub is : dnames dir ≡ true
  pub lists : (syllable : SYL) → contents syllable ↔ Content nstore dir syllable

-- ---- 4.3.11: directories are files

module _ {A B : Type 0} where
  -- a partial function applied to what may be undefined
  abbrev pub applied : (A ⇸ B) → Option A → Option B
  applied f none = none
  applied f (some a) = f a

-- dirformat maps a file to the directory structure that it represents
pub record dirstored (dirformat : FILE → SYL ⇸ FID) (RootFid : FID) (fstore : FSTORE) (nstore : NSTORE) (dnames : ℙ NAME) : Type 0 where
  pub directories : (name : NAME) → dnames name ≡ true → name ∈dom nstore
  pub files : (name : NAME) (fid : FID) → nstore name ≡ some fid → fid ∈dom fstore
  pub rule : (name : NAME) → name ≢ [] → name ∈dom nstore
      → nstore name ≡ applied (λ dir. dirformat dir (last name)) (applied fstore (nstore (front name)))
  pub top : nstore [] ≡ some RootFid

-- ---- 4.3.14: composed

pub record linkNS (nstore nstore' : NSTORE) (oldname newname : NAME) (fid : FID) : Type 0 where
  pub is : nstore oldname ≡ some fid
  pub links : nstore' ≡ nstore ⊕ the_name newname ⟼ fid

pub record moveNS (nstore nstore' : NSTORE) (oldname newname : NAME) (fid : FID) : Type 0 where
  pub is : nstore oldname ≡ some fid
  pub moves : nstore' ≡ the_name oldname ⩤ (nstore ⊕ the_name newname ⟼ fid)
