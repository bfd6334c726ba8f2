-- The files of three tables: what names see of a store, whatever the channel records hold.
use Prim.Native.Nat.{ℕ, zero, suc, ◌*◌}
use Rattle.std.specs.Prelude.{◌≡◌, true, length}
use Rattle.std.proofs.Math.Path.{refl, ap, fun_ext}
use Rattle.std.proofs.Common.{◌∙◌}
use mathlib.Core.List.{List, [], ◌∷◌}
use Rattle.records.specs.Tests.{and_right}
use Rattle.meaning.specs.Name.{record_count}
use Rattle.meaning.specs.Store.{Store, File, no_channel, in_use, is_directory, within, names}
use Rattle.meaning.specs.Tables.{Tables, tables, store_of, file_of, file_count, byte_of}
use Rattle.meaning.specs.declared.Lent.{Lent}
use Rattle.meaning.specs.Sound.{sound, layout_sound, well_formed}
use Rattle.layout.specs.Layout.{sound_layout}
use Rattle.soundness.specs.Well.{Well}
use Rattle.soundness.specs.WellLaws.{well}
use Rattle.soundness.specs.WellFacts.{directory-length}
use Rattle.soundness.specs.Seen.{files_store, is_directory-seen}
use Rattle.directories.specs.Find.{Lies}
use Rattle.lookup.specs.Walk.{walk}
use Rattle.lookup.specs.Found.{directory_lies}

-- the store of three tables: no channel
abbrev pub filed : List ℕ → List ℕ → List ℕ → Store
filed blocks records files = store_of (tables blocks records files [])

-- every directory's records lie in the block table
pub record Shelves (blocks records files : List ℕ) : Type 0 where
  pub lies : (d : ℕ) → is_directory (filed blocks records files) d ≡ true → Lies blocks records d (record_count ((filed blocks records files).file d).bytes)
  pub whole : (d : ℕ) → is_directory (filed blocks records files) d ≡ true
      → length ((filed blocks records files).file d).bytes ≡ 16 * record_count ((filed blocks records files).file d).bytes

-- the same of lent tables
abbrev pub filed_in : Lent → Store
filed_in store = filed store.blocks.now store.block_records.now store.file_records.now

abbrev pub ShelvesIn : Lent → Type 0
ShelvesIn store = Shelves store.blocks.now store.block_records.now store.file_records.now

pub sound_well : (t : Tables) → sound t ≡ true → Well (store_of t)
unfolding sound
sound_well t e = well (store_of t) (and_right (layout_sound t) (well_formed (store_of t)) e)

-- ---- the channel records play no part in files and names

module _ (blocks records files channels : List ℕ) where
  file-seen : (f : ℕ) → file_of (tables blocks records files channels) f ≡ file_of (tables blocks records files []) f
  unfolding file_of byte_of
  file-seen zero = refl
  file-seen (suc r) = refl

  files-seen : file_of (tables blocks records files channels) ≡ file_of (tables blocks records files [])
  files-seen = fun_ext file-seen

  -- a store with other files
  with_files : (ℕ → File) → Store
  with_files g = record { block_count = 0; file_count = file_count files; channel_count = 0; file = g; channel = λ c. no_channel }

  pub bytes-seen : (f : ℕ) → (store_of (tables blocks records files channels)).file f ≡ (filed blocks records files).file f
  unfolding store_of
  bytes-seen f = file-seen f

  pub directory-seen : (d : ℕ) → is_directory (store_of (tables blocks records files channels)) d ≡ is_directory (filed blocks records files) d
  unfolding is_directory in_use store_of with_files
  directory-seen d = ap (λ g. is_directory (with_files g) d) files-seen

  pub within-seen : (d : ℕ) (syllable : List ℕ) → within (store_of (tables blocks records files channels)) d syllable ≡ within (filed blocks records files) d syllable
  unfolding within is_directory in_use store_of with_files
  within-seen d syllable = ap (λ g. within (with_files g) d syllable) files-seen

  pub names-seen : (f : ℕ) → names (store_of (tables blocks records files channels)) f ≡ names (filed blocks records files) f
  unfolding names is_directory in_use store_of with_files
  names-seen f = ap (λ g. names (with_files g) f) files-seen

  pub walk-seen : (d : ℕ) (name : List (List ℕ)) → walk (store_of (tables blocks records files channels)) d name ≡ walk (filed blocks records files) d name
  unfolding walk
  walk-seen d [] = refl
  walk-seen d (syllable ∷ rest) =
      walk-seen (within (store_of (tables blocks records files channels)) d syllable) rest
      ∙ ap (λ e. walk (filed blocks records files) e rest) (within-seen d syllable)

-- whether a file is a directory, off the file records alone
pub directory_here : (blocks records files : List ℕ) (d : ℕ) → is_directory (filed blocks records files) d ≡ is_directory (files_store files) d
directory_here blocks records files d = is_directory-seen (tables blocks records files []) d

module _ (blocks records files channels : List ℕ) where
  -- the shelves of a sound store
  pub shelves : sound (tables blocks records files channels) ≡ true → Shelves blocks records files
  shelves ok =
      let t = tables blocks records files channels in
      let L = sound_layout t ok in
      let w = sound_well t ok in
      record {
        lies = λ d is. rw (bytes-seen blocks records files channels d) at (directory_lies t L w d (directory-seen blocks records files channels d ∙ is));
        whole = λ d is. rw (bytes-seen blocks records files channels d) at (directory-length (store_of t) w d (directory-seen blocks records files channels d ∙ is));
      }
