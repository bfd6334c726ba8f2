-- What the source says of its own definitions, each proved: of writeFILE (4.3.2), of readSS with its auxiliaries hidden (4.3.5), of
-- destroy and its honest form (4.3.13), of linkNS and moveNS, written in full, as compositions (4.3.14).
use Rattle.std.specs.Prelude.{ℕ, ◌+◌, max, ◌≡◌, refl, ◌≢◌, ◌↔◌, List, length}
use Rattle.std.proofs.Common.{ap, sym, ◌∙◌, eq-eqb, ne_eqb}
use Rattle.std.proofs.Math.Option.{some, none-ne-some}
use Rattle.meaning.specs.File.{writeFILE}
use Rattle.meaning.proofs.FileLaws.{length-write}
use Rattle.source.specs.Sets.{◌∈dom◌, ◌◁◌, ◌⩤◌, the, ◌··◌, seq, the_name}
use Rattle.source.specs.Files as Files
use Rattle.source.specs.Files.{FILE, FID, FSTORE, ◌after◌, readSS}
use Rattle.source.specs.Naming.{NAME, NSTORE, createNS, lookupNS, destroyNS, linkNS, moveNS}
use Rattle.source.specs.Filing.{State, Used, FS, destroyFS, implicitDestroyFS}
use Rattle.source.specs.StateLaws.{value, used_same, over_defined}
use Rattle.source.specs.FileLaws.{write_schema, write-one}
use Rattle.source.specs.Moves.{over_own}

-- ---- 4.3.2

-- writeFILE is possible for all values of file, offset? and data?, in one way, and the length of the new file is the larger of #file
-- and offset? + #data?
pub write_possible : (file : FILE) (offset : ℕ) (bytes : List ℕ) → (file' : FILE) × Files.writeFILE file file' offset bytes
write_possible file offset bytes = (writeFILE file offset bytes, write_schema file offset bytes)

pub write-length : (file file' : FILE) (offset : ℕ) (bytes : List ℕ) → Files.writeFILE file file' offset bytes → length file' ≡ max (length file) (offset + length bytes)
write-length file file' offset bytes h =
    ap length (write-one file file' (writeFILE file offset bytes) offset bytes h (write_schema file offset bytes)) ∙ length-write file offset bytes

-- ---- 4.3.5

-- readSS \ (file, file'), simplified: the storage system does not change
pub read_simplified : (fstore fstore' : FSTORE) (fid : FID) (offset size : ℕ) (out : List ℕ)
    → ((file : FILE) × (file' : FILE) × readSS fstore fstore' fid file file' offset size out)
    ↔ ((file : FILE) × (fstore fid ≡ some file) × (fstore' ≡ fstore) × (seq out ≡ 1 ·· size ◁ file after offset))
read_simplified fstore fstore' fid offset size out = (
  λ (file, file', h).
      let same : file' ≡ file = h.reads.stays in
      (file, h.frame.is, rw same at h.frame.others ∙ sym (over_own fstore fid file h.frame.is), h.reads.reads),
  λ (file, is, stays, reads).
      (file, file, record { frame = record { is = is; others = stays ∙ over_own fstore fid file is }; reads = record { stays = refl; reads = reads } }),
)

-- ---- 4.3.13

-- a file cannot be destroyed while it is in use (the source's 4.1 to 4.5)
pub destroyed_unused : (fid : FID) (x x' : State) → implicitDestroyFS fid x x' → Used x fid → ⊥
destroyed_unused fid x x' h u =
    let (file, there) = h.change.after.used fid (used_same x' x (sym h.channels) (sym h.names.names) fid u) in
    none-ne-some file (sym (value h.file.destroys fid ∙ rw (eq-eqb fid fid refl)) ∙ there)

pub destroy_honest : (fid : FID) (x x' : State) → implicitDestroyFS fid x x' ↔ destroyFS fid x x'
destroy_honest fid x x' = (
  λ h. record { change = h.change; file = h.file; channels = h.channels; names = h.names; unused = destroyed_unused fid x x' h },
  λ h. record { change = h.change; file = h.file; channels = h.channels; names = h.names },
)

-- and is honest: where the invariant and the precondition hold, there is a state that it leads to
pub destroy_applies : (fid : FID) (x : State) → FS x → fid ∈dom x.fstore → (Used x fid → ⊥) → (x' : State) × destroyFS fid x x'
destroy_applies fid x fs exists unused = (
  x',
  record {
    change = record { before = fs; after = record { names = fs.names; used = still } };
    file = record { exists = exists; destroys = refl };
    channels = refl;
    names = record { names = refl; directories = refl };
    unused = unused;
  },
)
  where
    x' : State
    x' = record { fstore = the fid ⩤ x.fstore; cstore = x.cstore; nstore = x.nstore; dnames = x.dnames }

    still : (f : FID) → Used x' f → f ∈dom x'.fstore
    still f u =
        let before : Used x f = used_same x x' refl refl f u in
        let other : f ≢ fid = λ (e : f ≡ fid). unused (rw e at before) in
        let (file, is) = fs.used f before in
        (file, rw (ne_eqb f fid other) is)

-- ---- 4.3.14

module _ (nstore nstore' : NSTORE) (oldname newname : NAME) (fid : FID) where
  -- linkNS ≙ lookupNS [oldname?/name?] ⨾ createNS [newname?/name?]
  pub link_composed : linkNS nstore nstore' oldname newname fid ↔ ((between : NSTORE) × lookupNS nstore between oldname fid × createNS between nstore' newname fid)
  link_composed = (
    λ h. (nstore, record { is = h.is; stays = refl }, record { creates = h.links }),
    λ (between, looked, created). record { is = looked.is; links = rw looked.stays at created.creates },
  )

  -- moveNS ≙ linkNS ⨾ destroyNS [oldname?/name?]
  pub move_composed : moveNS nstore nstore' oldname newname fid ↔ ((between : NSTORE) × linkNS nstore between oldname newname fid × destroyNS between nstore' oldname)
  move_composed = (
    λ h. (
      _,
      record { is = h.is; links = refl },
      record { exists = over_defined nstore (the_name newname) fid oldname (fid, h.is); destroys = h.moves },
    ),
    λ (between, linked, destroyed).
        record { is = linked.is; moves = destroyed.destroys ∙ ap (λ (n : NSTORE). the_name oldname ⩤ n) linked.links },
  )
