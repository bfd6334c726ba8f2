-- The four tables, prepared, are the store that the program starts with.
use Rattle.std.proofs.Common.{◌≡◌}
use Rattle.std.specs.Prelude.{replicate}
use Rattle.records.specs.Rows.{all_of}
use Rattle.meaning.specs.Tables.{Tables, tables, put_all}
use Rattle.meaning.specs.Sound.{lengths_agree}
use Rattle.meaning.specs.Result.{unless}
use Rattle.meaning.specs.Run.{Prepare, meaning, accepts, result_of, changes_of}
use Rattle.text.specs.Program.{at_start}
use Rattle.filestore_text.proofs.main.Goals as goal

-- zeros for 4 blocks, 4 files and 2 channels
abbrev lent : Tables
lent = tables (replicate 2048 0) (replicate 16 0) (replicate 32 0) (replicate 16 0)

store_at_start : (t : Tables) → t ≡ put_all lent (changes_of (result_of Prepare lent)) → t ≡ at_start
unfolding all_of lengths_agree unless meaning accepts result_of changes_of put_all at_start
store_at_start t prepared = prepared

pub serve_input-requires : goal.serve_input-requires
serve_input-requires c = search store_at_start
