-- What the store that tables hold has, read off the records: files, channels, what is free, what files need.
use Rattle.std.specs.Prelude.{ℕ, suc, ◌+◌, ◌-◌, ◌<◌, ◌≡◌, List, ltb}
use Rattle.std.proofs.Math.Path.{refl, ap}
use Rattle.std.proofs.Common.{◌∙◌, arith}
use Rattle.std.proofs.Math.Numerals.{add-one}
use Rattle.std.proofs.Math.ListN.{length}
use Rattle.records.specs.RowLaws.{sum_cong}
use Rattle.records.specs.ListLaws.{length-list_of}
use Rattle.meaning.specs.File.{needed}
use Rattle.meaning.specs.Store.{blocks_needed, free_file, free_files, free_channel, free_channels, held}
use Rattle.meaning.specs.Tables.{Tables, store_of, file_of, channel_of, byte_of, file_count, kind_at, depth_at, length_at, file_length, channel_file_at, position_at}
use Rattle.tables.specs.Searches.{file_with, files_with, channel_with, channels_with, needed_blocks}

-- ---- file f, whose record is number f - 1, and channel c

numbered : (f : ℕ) → 0 < f → f ≡ suc (f - 1)
numbered f h = omega arith

pub file-length : (records : List ℕ) (f : ℕ) → 0 < f → file_length records f ≡ length_at records (f - 1)
unfolding file_length
file-length records f h = ap (file_length records) (numbered f h)

module _ (t : Tables) where
  pub store_kind : (f : ℕ) → 0 < f → ((store_of t).file f).kind ≡ kind_at t.file_records (f - 1)
  unfolding store_of file_of
  store_kind f h = ap (λ g. (file_of t g).kind) (numbered f h)

  pub store_depth : (f : ℕ) → 0 < f → ((store_of t).file f).depth ≡ depth_at t.file_records (f - 1)
  unfolding store_of file_of
  store_depth f h = ap (λ g. (file_of t g).depth) (numbered f h)

  pub store_length : (f : ℕ) → 0 < f → length ((store_of t).file f).bytes ≡ length_at t.file_records (f - 1)
  unfolding store_of file_of
  store_length f h =
      ap (λ g. length (file_of t g).bytes) (numbered f h)
      ∙ length-list_of (length_at t.file_records (f - 1)) (byte_of t (suc (f - 1)))

  pub store_channel_file : (c : ℕ) → ((store_of t).channel c).file ≡ channel_file_at t.channel_records c
  unfolding store_of channel_of
  store_channel_file c = refl

  pub store_channel_position : (c : ℕ) → ((store_of t).channel c).posn ≡ position_at t.channel_records c
  unfolding store_of channel_of
  store_channel_position c = refl

-- ---- what is free, held and needed

module _ (t : Tables) where
  pub free_channel_lem : free_channel (store_of t) ≡ channel_with t.channel_records 0
  unfolding free_channel store_of channel_of channel_with
  free_channel_lem = refl

  pub free_channels_lem : free_channels (store_of t) ≡ channels_with t.channel_records 0
  unfolding free_channels store_of channel_of channels_with
  free_channels_lem = refl

  -- files are counted from 1, their records from 0
  pub free_file_lem : free_file (store_of t) ≡ file_with t.file_records 0 + 1
  unfolding free_file store_of file_of file_with
  free_file_lem = rw add-one

  pub free_files_lem : free_files (store_of t) ≡ files_with t.file_records 0
  unfolding free_files store_of file_of files_with
  free_files_lem = refl

  pub held-channels : (f : ℕ) → held (store_of t) f ≡ ltb 0 (channels_with t.channel_records f)
  unfolding held store_of channel_of channels_with
  held-channels f = refl

  pub blocks-needed : blocks_needed (store_of t) ≡ needed_blocks t.file_records
  unfolding blocks_needed store_of file_of needed_blocks
  blocks-needed =
      sum_cong (file_count t.file_records) _ _
      (λ r h. ap needed (length-list_of (length_at t.file_records r) (byte_of t (suc r))))
