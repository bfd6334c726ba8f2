-- A changed name store, and the directories' files that hold it: the states between createFS0, linkFS0 or unlinkFS0 and direncode.
use Rattle.std.specs.Prelude.{ℕ, ◌-◌, ◌<◌, ◌≡◌, refl, ◌≢◌, [], Bool, true, false, length}
use Rattle.std.proofs.Common.{ap, sym, ◌∙◌, ⊎_elim, arith, length-take}
use Rattle.std.proofs.Math.Option.{some}
use Rattle.meaning.specs.Store.{Store, front}
use Rattle.source.specs.Sets.{◌∈dom◌, ◌⊕◌, ◌⩤◌, ◌⟼◌, same_name, the_name}
use Rattle.source.specs.Files.{FSTORE}
use Rattle.source.specs.Channels.{CHAN, CSTORE}
use Rattle.source.specs.Naming.{NAME}
use Rattle.source.specs.Filing.{State, Used, by_name, by_channel, FS, ΞNS, direncode}
use Rattle.source.specs.View.{view, dirformat, RootFid}
use Rattle.source.specs.ViewLaws.{name-same}
use Rattle.source.specs.Invariants.{directories_stored}
use Rattle.source.specs.StateLaws.{value, over_value, without_value, still_filing}

-- ---- the state with a name given, and perhaps a file and a channel

abbrev pub naming_state : State → NAME → ℕ → FSTORE → CSTORE → State
naming_state x name fid fstore cstore = record { fstore = fstore; cstore = cstore; nstore = x.nstore ⊕ the_name name ⟼ fid; dnames = x.dnames }

module _ (x : State) (fs : FS x) (name : NAME) (in_directory_lem : x.dnames (front name) ≡ true) (fid : ℕ) (fstore : FSTORE) (cstore : CSTORE)
    (kept : (f : ℕ) → f ∈dom x.fstore → f ∈dom fstore) (exists : fid ∈dom fstore)
    (refers : (cid : ℕ) (chan : CHAN) → cstore cid ≡ some chan → chan.fid ∈dom fstore) where
  pub naming_filing : FS (naming_state x name fid fstore cstore)
  naming_filing =
      record {
        names = record { file-front = fronts; directory-front = fs.names.directory-front };
        used = all;
      }
    where
      fronts : (m : NAME) → m ≢ [] → m ∈dom (x.nstore ⊕ the_name name ⟼ fid) → x.dnames (front m) ≡ true
      fronts m more (f, e) =
          ⊎_elim
          (λ (new : (same_name m name ≡ true) × (f ≡ fid)). ap (λ (l : NAME). x.dnames (front l)) (name-same m name new.0) ∙ in_directory_lem)
          (λ (old : x.nstore m ≡ some f). fs.names.file-front m more (f, old))
          (over_value x.nstore (the_name name) fid m f e)

      all : (f : ℕ) → Used (naming_state x name fid fstore cstore) f → f ∈dom fstore
      all f (by_name m e) =
          ⊎_elim
          (λ (new : (same_name m name ≡ true) × (f ≡ fid)). rw new.1 exists)
          (λ (old : x.nstore m ≡ some f). kept f (fs.used f (by_name m old)))
          (over_value x.nstore (the_name name) fid m f e)
      all f (by_channel cid chan e is) = rw is at (refers cid chan e)

-- ---- the state with a name taken

abbrev pub unnaming_state : State → NAME → State
unnaming_state x name = record { fstore = x.fstore; cstore = x.cstore; nstore = the_name name ⩤ x.nstore; dnames = x.dnames }

module _ (x : State) (fs : FS x) (name : NAME) where
  pub unnaming_filing : FS (unnaming_state x name)
  unnaming_filing =
      record {
        names = record {
          file-front = λ m more (f, e). fs.names.file-front m more (f, without_value x.nstore (the_name name) m f e);
          directory-front = fs.names.directory-front;
        };
        used = all;
      }
    where
      all : (f : ℕ) → Used (unnaming_state x name) f → f ∈dom x.fstore
      all f (by_name m e) = fs.used f (by_name m (without_value x.nstore (the_name name) m f e))
      all f (by_channel cid chan e is) = fs.used f (by_channel cid chan e is)

-- ---- the directories' files

-- the store t holds the names of state x, with no file of x but the one that directory `dname` names changed
module _ (x : State) (fs : FS x) (t : Store) (channels : (view t).cstore ≡ x.cstore) (names : ΞNS x (view t)) (kept : (f : ℕ) → f ∈dom x.fstore → f ∈dom (view t).fstore)
    (d : ℕ) (dname : NAME) (is : x.dnames dname ≡ true) (at : x.nstore dname ≡ some d) (others : (f : ℕ) → f ≢ d → (view t).fstore f ≡ x.fstore f) where
  pub encoded_filing : FS (view t)
  encoded_filing =
      still_filing x (view t) fs names kept
      (λ cid chan e. kept chan.fid (fs.used chan.fid (by_channel cid chan (sym (value channels cid) ∙ e) refl)))

  pub encoded : direncode dirformat RootFid x (view t)
  encoded =
      record {
        change = record { before = fs; after = encoded_filing };
        channels = channels;
        names = names;
        stored = directories_stored t (λ name f e. encoded_filing.used f (by_name name e));
        others = λ f not-one. others f (λ (e : f ≡ d). not-one dname is (at ∙ ap some (sym e)));
      }

-- a name is not its own front
pub not_front : (name : NAME) → 0 < length name → same_name (front name) name ≡ false
not_front name more = go (same_name (front name) name) refl
  where
    go : (t : Bool) → same_name (front name) name ≡ t → t ≡ false
    go true e = let same_length = ap length (name-same (front name) name e) in absurd (omega (arith, length-take (length name - 1) name))
    go false e = refl
