-- A file read, written and cleared in the tables: what the code asks and promises. Channel records lie beside them and play no part.
use Rattle.std.specs.Prelude.{ℕ, ◌≤◌, ◌<◌, ◌≡◌, List, [], length}
use Rattle.meaning.specs.File.{readFILE, writeFILE, over}
use Rattle.meaning.specs.Store.{File, file}
use Rattle.meaning.specs.Tables.{tables, store_of, file_count, put}
use Rattle.meaning.specs.Run.{Lent}
use Rattle.layout.specs.Layout.{Layout}
use Rattle.layout.specs.Fits.{FileFits}
use Rattle.blocks.specs.Places.{WholeRecords}

-- a file with bytes written into it, from byte `at` on
abbrev pub with_write : File → ℕ → List ℕ → File
with_write x at bytes = record { kind = x.kind; depth = x.depth; bytes = writeFILE x.bytes at bytes }

-- a file without bytes
abbrev pub cleared : ℕ → ℕ → File
cleared kind depth = record { kind = kind; depth = depth; bytes = [] }

-- ---- what is asked

-- the tables have a sound layout, and file f is one of theirs
pub record HasFile (blocks records files : List ℕ) (f : ℕ) : Type 0 where
  pub channels : List ℕ
  pub layout : Layout (tables blocks records files channels)
  pub from_one : 0 < f
  pub to_last : f ≤ file_count files

-- the tables have a sound layout, and there is room for file f with the bytes written
pub record Writable (blocks records files : List ℕ) (f at : ℕ) (bytes : List ℕ) : Type 0 where
  pub channels : List ℕ
  pub layout : Layout (tables blocks records files channels)
  pub fits : let s = store_of (tables blocks records files channels) in FileFits s f (with_write (s.file f) at bytes)

-- the block records are whole, and file f is one of the tables'
pub record Clearable (records files : List ℕ) (f : ℕ) : Type 0 where
  pub whole : WholeRecords records
  pub from_one : 0 < f
  pub to_last : f ≤ file_count files

-- ---- what is promised, whatever channel records lie beside

-- bytes of file f, from byte `at` on, at the head of a buffer, as many as it holds; and their count
pub record Reads (blocks records files : List ℕ) (f at : ℕ) (buffer after : List ℕ) (count : ℕ) : Type 0 where
  pub counts : (channels : List ℕ)
      → count ≡ length (readFILE ((store_of (tables blocks records files channels)).file f).bytes at (length buffer))
  pub fills : (channels : List ℕ)
      → after ≡ over buffer (readFILE ((store_of (tables blocks records files channels)).file f).bytes at (length buffer))

-- file f has the bytes written into it
abbrev pub Writes : Lent → Lent → Lent → ℕ → ℕ → List ℕ → Type 0
Writes b br fr f at bytes =
    (channels : List ℕ) →
    let t = tables b.entry.now br.entry.now fr.entry.now channels in
    tables b.exit.now br.exit.now fr.exit.now channels ≡ put t (file f (with_write ((store_of t).file f) at bytes))

-- file f has no bytes, and this kind and depth; whatever the blocks hold, they keep
abbrev pub Clears : Lent → Lent → ℕ → ℕ → ℕ → Type 0
Clears br fr f kind depth =
    (blocks channels : List ℕ)
    → tables blocks br.exit.now fr.exit.now channels
    ≡ put (tables blocks br.entry.now fr.entry.now channels) (file f (cleared kind depth))
