-- What the code asks, from a sound layout and a change that fits.
use Rattle.std.specs.Prelude.{ℕ, ◌≤◌, ◌<◌, List}
use Rattle.meaning.specs.Tables.{Tables, store_of, file_count}
use Rattle.layout.specs.Layout.{Layout}
use Rattle.layout.specs.Fits.{FileFits}
use Rattle.blocks.specs.Places.{WholeRecords}
use Rattle.files.specs.Files.{HasFile, Writable, Clearable, with_write}

module _ (t : Tables) (L : Layout t) where
  pub whole-records : WholeRecords t.block_records
  whole-records = record { few = L.lengths.few-blocks; whole = L.lengths.block_records_lem }

  module _ (f : ℕ) where
    pub has_file : 0 < f → f ≤ file_count t.file_records → HasFile t.blocks t.block_records t.file_records f
    has_file some last = record { channels = t.channel_records; layout = L; from_one = some; to_last = last }

    pub clearable : 0 < f → f ≤ file_count t.file_records → Clearable t.block_records t.file_records f
    clearable some last = record { whole = whole-records; from_one = some; to_last = last }

    pub writable : (at : ℕ) (bytes : List ℕ) → FileFits (store_of t) f (with_write ((store_of t).file f) at bytes)
        → Writable t.blocks t.block_records t.file_records f at bytes
    writable at bytes fits = record { channels = t.channel_records; layout = L; fits = fits }
