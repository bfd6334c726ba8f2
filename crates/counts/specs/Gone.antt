-- What goes with a name.
use Rattle.std.specs.Prelude.{ℕ, not, ◌&&◌, eqb}
use Rattle.records.specs.Rows.{pick}
use Rattle.meaning.specs.Store.{Store, names, held}

-- the file that goes with a name of file f: f where it has one name and no channel, and else 0
unfoldable pub gone_with : Store → ℕ → ℕ
gone_with s f = pick (eqb (names s f) 1 && not (held s f)) f 0
