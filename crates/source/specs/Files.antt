-- Files, reading and writing, file storage and framing (the source, 4.3.1 to 4.3.5).
use Rattle.std.specs.Prelude.{ℕ, ◌+◌, ◌-◌, ◌<◌, ◌≡◌, List, [], true, length, get_or}
use Rattle.std.proofs.Math.Option.{some}
use Rattle.source.specs.Sets.{◌⇸◌, ℙ, ◌∈dom◌, ◌⊕◌, ◌◁◌, ◌⩤◌, ◌⟼◌, the, ◌··◌, seq}

infixl 9 ◌after◌ ◌shift◌
-- ---- 4.3.1

abbrev pub BYTE : ℙ ℕ
BYTE = 0 ·· 255

-- seq BYTE: every element is a byte
abbrev pub SeqBYTE : List ℕ → Type 0
SeqBYTE l = (i : ℕ) → i < length l → BYTE (get_or l i 0) ≡ true

-- a file is a sequence of bytes of any length. A byte is a number here: the code has u8, and Limits says that files are made of bytes
abbrev pub FILE : Type 0
FILE = List ℕ

-- ---- 4.3.2

-- dom (s after offset) = 1 .. #s - offset, and (s after offset) (n) = s (n + offset)
abbrev pub ◌after◌ : FILE → ℕ → ℕ ⇸ ℕ
s after offset = 1 ·· (length s - offset) ◁ λ n. seq s (n + offset)

-- (s shift offset) (n) = s (n - offset); n up to the offset has nothing, since no element has number 0
abbrev pub ◌shift◌ : FILE → ℕ → ℕ ⇸ ℕ
(s shift offset) n = seq s (n - offset)

-- zero (n) = λ k : 1 .. n • ZERO
abbrev pub zeroes : ℕ → ℕ ⇸ ℕ
zeroes n = 1 ·· n ⟼ 0

pub record readFILE (file file' : FILE) (offset size : ℕ) (out : List ℕ) : Type 0 where
  pub stays : file' ≡ file
  pub reads : seq out ≡ 1 ·· size ◁ file after offset

pub record writeFILE (file file' : FILE) (offset : ℕ) (bytes : List ℕ) : Type 0 where
  pub writes : seq file' ≡ zeroes offset ⊕ seq file ⊕ bytes shift offset

-- ---- 4.3.3: SS

abbrev pub FID : Type 0
FID = ℕ

abbrev pub FSTORE : Type 0
FSTORE = FID ⇸ FILE

pub record createSS (fstore fstore' : FSTORE) (fid : FID) : Type 0 where
  pub creates : fstore' ≡ fstore ⊕ the fid ⟼ []

pub record destroySS (fstore fstore' : FSTORE) (fid : FID) : Type 0 where
  pub exists : fid ∈dom fstore
  pub destroys : fstore' ≡ the fid ⩤ fstore

-- ---- 4.3.4: framing. 4.3.5 hides file and file': from readAS on they are fields of the schema

-- fid ∈ dom fstore and file = fstore (fid) are one equation
pub record ΦSS (fstore fstore' : FSTORE) (fid : FID) (file file' : FILE) : Type 0 where
  pub is : fstore fid ≡ some file
  pub others : fstore' ≡ fstore ⊕ the fid ⟼ file'

pub record readSS (fstore fstore' : FSTORE) (fid : FID) (file file' : FILE) (offset size : ℕ) (out : List ℕ) : Type 0 where
  pub frame : ΦSS fstore fstore' fid file file'
  pub reads : readFILE file file' offset size out

pub record writeSS (fstore fstore' : FSTORE) (fid : FID) (file file' : FILE) (offset : ℕ) (bytes : List ℕ) : Type 0 where
  pub frame : ΦSS fstore fstore' fid file file'
  pub writes : writeFILE file file' offset bytes
