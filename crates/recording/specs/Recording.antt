-- A record written into a directory: what the code asks and promises. Channel records lie beside and play no part.
use Rattle.std.specs.Prelude.{ℕ, ◌≡◌, List, true, length}
use Rattle.meaning.specs.Name.{entry, written}
use Rattle.meaning.specs.Store.{is_directory, file}
use Rattle.meaning.specs.NameCalls.{rewritten}
use Rattle.meaning.specs.Tables.{tables, store_of, put}
use Rattle.meaning.specs.Run.{Lent}
use Rattle.layout.specs.Layout.{Layout}
use Rattle.layout.specs.Fits.{FileFits}
use Rattle.names.specs.Syllables.{part, last_start}

-- the record that gives the last syllable of a name to file f
unfoldable pub record_of : ℕ → List ℕ → List ℕ
record_of f name = written (entry f (part name (last_start name) (length name)))

-- d is a directory of tables with a sound layout, and there is room for it with the record
pub record Rewritable (blocks records files : List ℕ) (d i : ℕ) (r : List ℕ) : Type 0 where
  pub channels : List ℕ
  pub layout : Layout (tables blocks records files channels)
  pub is_directory_lem : is_directory (store_of (tables blocks records files channels)) d ≡ true
  pub fits : let s = store_of (tables blocks records files channels) in FileFits s d (rewritten s d i r)

-- directory d has the record, whatever channel records lie beside
abbrev pub Rewrites : Lent → Lent → Lent → ℕ → ℕ → List ℕ → Type 0
Rewrites b br fr d i r =
    (channels : List ℕ) →
    let t = tables b.entry.now br.entry.now fr.entry.now channels in
    tables b.exit.now br.exit.now fr.exit.now channels ≡ put t (file d (rewritten (store_of t) d i r))
