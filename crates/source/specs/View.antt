-- The source's state of a store.
use Rattle.std.specs.Prelude.{ℕ, ◌*◌, ◌<◌, ◌≡◌, List, take, drop, eqb}
use Rattle.std.proofs.Math.Option.{Option, none, some}
use Rattle.records.specs.Rows.{pick, lowest}
use Rattle.records.specs.Numbers.{one}
use Rattle.meaning.specs.Name.{in_directory}
use Rattle.meaning.specs.Store.{Store, Channel, root, in_use, is_directory, is_open, named}
use Rattle.source.specs.Sets.{◌⇸◌}
use Rattle.source.specs.Files.{FILE, FID}
use Rattle.source.specs.Channels.{CHAN}
use Rattle.source.specs.Naming.{SYL}
use Rattle.source.specs.Filing.{State}

-- a file number, where 0 means none
abbrev pub numbered : ℕ → Option FID
numbered f = pick (eqb f 0) none (some f)

abbrev pub chan_of : Channel → CHAN
chan_of y = record { fid = y.file; posn = y.posn }

abbrev pub view : Store → State
view s =
    record {
      fstore = λ f. pick (in_use s f) (some (s.file f).bytes) none;
      cstore = λ c. pick (is_open s c) (some (chan_of (s.channel c))) none;
      nstore = λ name. numbered (named s name);
      dnames = λ name. is_directory s (named s name);
    }

-- the format of our directories' files, and the root
abbrev pub dirformat : FILE → SYL ⇸ FID
dirformat dir syllable = numbered (in_directory dir syllable)

abbrev pub RootFid : FID
RootFid = root

-- ---- what ls answers: rows of 14 bytes, each a syllable padded with zeros

unfoldable pub row_at : List ℕ → ℕ → List ℕ
row_at bytes j = take 14 (drop (14 * j) bytes)

unfoldable pub row_name : List ℕ → SYL
row_name row = take (lowest 14 (λ i. eqb (one row i) 0)) row

-- one of `count` rows has the syllable
pub record Listed (count : ℕ) (bytes : List ℕ) (syllable : SYL) : Type 0 where
  pub row : ℕ
  pub within : row < count
  pub is : row_name (row_at bytes row) ≡ syllable
