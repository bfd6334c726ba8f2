-- What a rule sees: some rules look at some of the tables alone, and give the same whatever the others hold.
use Prim.Native.Nat.{ℕ, zero, suc, ◌≤◌, ◌<◌}
use Rattle.std.specs.Prelude.{◌≡◌, Bool, false, not}
use Rattle.std.proofs.Math.Path.{refl}
use Rattle.std.proofs.Common.{sym, ◌∙◌}
use mathlib.Core.List.{List, []}
use Rattle.std.proofs.lemmas.Bool.{not-false}
use Rattle.records.specs.RowLaws.{every_cong}
use Rattle.records.specs.ListLaws.{length-list_of}
use Rattle.meaning.specs.Store.{Store, in_use, is_directory}
use Rattle.meaning.specs.Tables.{Tables, tables, store_of, file_of, channel_of, byte_of, file_count, channel_count, owner, length_at, channel_file_at}
use Rattle.meaning.specs.declared.Lent.{Lent}
use Rattle.meaning.specs.Sound.{as_free, as_ordinary, as_directory, file_sound, files_sound, channel_sound, channels_sound, block_sound}
use Rattle.soundness.specs.Use.{Used, used, directory_used}

-- the store of file records alone, of file and channel records, and the tables of block and file records
abbrev pub files_store : List ℕ → Store
files_store files = store_of (tables [] [] files [])

abbrev pub channels_store : List ℕ → List ℕ → Store
channels_store files channels = store_of (tables [] [] files channels)

abbrev pub record_tables : List ℕ → List ℕ → Tables
record_tables records files = tables [] records files []

-- of lent tables
abbrev pub channels_of : Lent → Store
channels_of store = channels_store store.file_records.now store.channel_records.now

abbrev pub records_of : Lent → Tables
records_of store = record_tables store.block_records.now store.file_records.now

-- a file in use has a record, and a directory too: where a flag says that it is one
module _ (files : List ℕ) (f : ℕ) (flag : Bool) where
  there : Used (files_store files) f → (0 < f) × (f ≤ file_count files)
  unfolding store_of
  there u = (u.some, u.within)

  pub used_there : flag ≡ in_use (files_store files) f → not flag ≡ false → (0 < f) × (f ≤ file_count files)
  used_there is so = there (used (files_store files) f (sym is ∙ not-false flag so))

  pub directory_there : flag ≡ is_directory (files_store files) f → not flag ≡ false → (0 < f) × (f ≤ file_count files)
  directory_there is so = there (directory_used (files_store files) f (sym is ∙ not-false flag so))

module _ (t : Tables) where
  pub in_use-seen : (f : ℕ) → in_use (store_of t) f ≡ in_use (files_store t.file_records) f
  unfolding in_use store_of file_of
  in_use-seen zero = refl
  in_use-seen (suc r) = refl

  in_use-channels : (f : ℕ) → in_use (channels_store t.file_records t.channel_records) f ≡ in_use (files_store t.file_records) f
  unfolding in_use store_of file_of
  in_use-channels zero = refl
  in_use-channels (suc r) = refl

  in_use-blocks : (f : ℕ) → in_use (store_of (record_tables t.block_records t.file_records)) f ≡ in_use (files_store t.file_records) f
  unfolding in_use store_of file_of
  in_use-blocks zero = refl
  in_use-blocks (suc r) = refl

  pub is_directory-seen : (f : ℕ) → is_directory (store_of t) f ≡ is_directory (files_store t.file_records) f
  unfolding is_directory in_use store_of file_of
  is_directory-seen zero = refl
  is_directory-seen (suc r) = refl

  pub depth-seen : (f : ℕ) → ((store_of t).file f).depth ≡ ((files_store t.file_records).file f).depth
  unfolding store_of file_of
  depth-seen zero = refl
  depth-seen (suc r) = refl

  file_sound-seen : (r : ℕ) → file_sound (suc r) (file_of t (suc r)) ≡ file_sound (suc r) (file_of (tables [] [] t.file_records []) (suc r))
  unfolding file_sound as_free as_ordinary as_directory file_of
  file_sound-seen r =
      rw (length-list_of (length_at t.file_records r) (byte_of t (suc r)), length-list_of (length_at t.file_records r) (byte_of (tables [] [] t.file_records []) (suc r)))

  pub files_sound-seen : files_sound (store_of t) ≡ files_sound (files_store t.file_records)
  unfolding files_sound store_of
  files_sound-seen =
      every_cong (file_count t.file_records) (λ i. file_sound (suc i) (file_of t (suc i)))
      (λ i. file_sound (suc i) (file_of (tables [] [] t.file_records []) (suc i))) (λ i h. file_sound-seen i)

  pub channels_sound-seen : channels_sound (store_of t) ≡ channels_sound (channels_store t.file_records t.channel_records)
  unfolding channels_sound store_of
  channels_sound-seen =
      every_cong (channel_count t.channel_records) (λ c. channel_sound (store_of t) (channel_of t c))
      (λ c. channel_sound (channels_store t.file_records t.channel_records) (channel_of (tables [] [] t.file_records t.channel_records) c)) (λ c h. seen c)
    where
      seen : (c : ℕ) → channel_sound (store_of t) (channel_of t c)
          ≡ channel_sound (channels_store t.file_records t.channel_records) (channel_of (tables [] [] t.file_records t.channel_records) c)
      seen c = unfold channel_sound channel_of in rw (in_use-seen (channel_file_at t.channel_records c), in_use-channels (channel_file_at t.channel_records c))

  pub block_sound-seen : (b : ℕ) → block_sound t b ≡ block_sound (record_tables t.block_records t.file_records) b
  unfolding block_sound
  block_sound-seen b = rw (in_use-seen (owner t.block_records b), in_use-blocks (owner t.block_records b))
