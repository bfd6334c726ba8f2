-- readAS, writeAS and seekAS as the source writes them expanded and simplified (4.3.8): the same schemas.
use Rattle.std.specs.Prelude.{ℕ, ◌+◌, ◌≡◌, refl, ◌↔◌, List, length}
use Rattle.std.proofs.Common.{sym, ◌∙◌}
use Rattle.std.proofs.Math.Option.{some}
use Rattle.source.specs.Sets.{◌⊕◌, ◌◁◌, ◌⟼◌, the, ◌··◌, seq}
use Rattle.source.specs.Files.{FILE, FSTORE, ◌after◌, ◌shift◌, zeroes}
use Rattle.source.specs.Channels.{CHAN, CID, CSTORE, ΔAS, readAS, writeAS, seekAS}
use Rattle.source.specs.Moves.{over_own}

-- ∃ CHAN' • posn' = p ∧ fid' = fid ∧ cstore' = cstore ⊕ {cid? ↦ θCHAN'}
pub record Positioned (cstore cstore' : CSTORE) (cid : CID) (chan : CHAN) (p : ℕ) : Type 0 where
  pub chan' : CHAN
  pub posn : chan'.posn ≡ p
  pub fid : chan'.fid ≡ chan.fid
  pub channels : cstore' ≡ cstore ⊕ the cid ⟼ chan'

module _ (fstore fstore' : FSTORE) (cstore cstore' : CSTORE) (cid : CID) where
  pub record ReadAS (size : ℕ) (out : List ℕ) : Type 0 where
    pub access : ΔAS fstore fstore' cstore cstore'
    pub chan : CHAN
    pub file : FILE
    pub is : cstore cid ≡ some chan
    pub of : fstore chan.fid ≡ some file
    pub files : fstore' ≡ fstore
    pub moves : Positioned cstore cstore' cid chan (chan.posn + length out)
    pub reads : seq out ≡ 1 ·· size ◁ file after chan.posn

  pub record WriteAS (bytes : List ℕ) : Type 0 where
    pub access : ΔAS fstore fstore' cstore cstore'
    pub chan : CHAN
    pub file : FILE
    pub file' : FILE
    pub is : cstore cid ≡ some chan
    pub of : fstore chan.fid ≡ some file
    pub writes : seq file' ≡ zeroes chan.posn ⊕ seq file ⊕ bytes shift chan.posn
    pub files : fstore' ≡ fstore ⊕ the chan.fid ⟼ file'
    pub moves : Positioned cstore cstore' cid chan (chan.posn + length bytes)

  pub record SeekAS (newposn : ℕ) : Type 0 where
    pub access : ΔAS fstore fstore' cstore cstore'
    pub chan : CHAN
    pub is : cstore cid ≡ some chan
    pub files : fstore' ≡ fstore
    pub moves : Positioned cstore cstore' cid chan newposn

  pub read_expanded : (size : ℕ) (out : List ℕ) → readAS fstore fstore' cstore cstore' cid size out ↔ ReadAS size out
  read_expanded size out = (
    λ h.
        let stays = h.reads.reads.reads.stays in
        let framed = h.reads.reads.frame in
        record {
          access = h.frame.access;
          chan = h.chan;
          file = h.file;
          is = h.frame.is;
          of = framed.is;
          files = rw stays at framed.others ∙ sym (over_own fstore h.chan.fid h.file framed.is);
          moves = record { chan' = h.chan'; posn = h.reads.posn; fid = h.reads.channel.fid; channels = h.frame.others };
          reads = h.reads.reads.reads.reads;
        },
    λ h. record {
      chan = h.chan;
      chan' = h.moves.chan';
      file = h.file;
      file' = h.file;
      frame = record { access = h.access; channel = record { fid = h.moves.fid }; is = h.is; others = h.moves.channels };
      reads = record {
        reads = record {
          frame = record { is = h.of; others = h.files ∙ over_own fstore h.chan.fid h.file h.of };
          reads = record { stays = refl; reads = h.reads };
        };
        channel = record { fid = h.moves.fid };
        posn = h.moves.posn;
      };
    },
  )

  pub write_expanded : (bytes : List ℕ) → writeAS fstore fstore' cstore cstore' cid bytes ↔ WriteAS bytes
  write_expanded bytes = (
    λ h. record {
      access = h.frame.access;
      chan = h.chan;
      file = h.file;
      file' = h.file';
      is = h.frame.is;
      of = h.writes.writes.frame.is;
      writes = h.writes.writes.writes.writes;
      files = h.writes.writes.frame.others;
      moves = record { chan' = h.chan'; posn = h.writes.posn; fid = h.writes.channel.fid; channels = h.frame.others };
    },
    λ h. record {
      chan = h.chan;
      chan' = h.moves.chan';
      file = h.file;
      file' = h.file';
      frame = record { access = h.access; channel = record { fid = h.moves.fid }; is = h.is; others = h.moves.channels };
      writes = record {
        writes = record { frame = record { is = h.of; others = h.files }; writes = record { writes = h.writes } };
        channel = record { fid = h.moves.fid };
        posn = h.moves.posn;
      };
    },
  )

  pub seek_expanded : (newposn : ℕ) → seekAS fstore fstore' cstore cstore' cid newposn ↔ SeekAS newposn
  seek_expanded newposn = (
    λ h. record {
      access = h.frame.access;
      chan = h.chan;
      is = h.frame.is;
      files = h.seeks.files;
      moves = record { chan' = h.chan'; posn = h.seeks.posn; fid = h.seeks.channel.fid; channels = h.frame.others };
    },
    λ h. record {
      chan = h.chan;
      chan' = h.moves.chan';
      frame = record { access = h.access; channel = record { fid = h.moves.fid }; is = h.is; others = h.moves.channels };
      seeks = record { channel = record { fid = h.moves.fid }; files = h.files; posn = h.moves.posn };
    },
  )
