-- Tables after a record was written into a directory: any of their files can be cleared.
use Rattle.std.specs.Prelude.{ℕ, ◌≤◌, ◌<◌, ◌≡◌, List}
use Rattle.std.proofs.Math.Path.{ap}
use Rattle.std.proofs.Common.{sym, subst, ◌∙◌}
use Rattle.meaning.specs.Store.{Store, file}
use Rattle.meaning.specs.NameCalls.{rewritten}
use Rattle.meaning.specs.Tables.{Tables, tables, store_of, file_count, put}
use Rattle.layout.specs.Layout.{Layout}
use Rattle.layout.specs.Room.{same-files}
use Rattle.layout.proofs.Putting.{put_store, put_layout}
use Rattle.files.specs.Files.{Clearable}
use Rattle.recording.specs.Recording.{Rewritable}

-- what a record that was written leaves
abbrev pub Written : (blocks records files blocks' records' files' : List ℕ) → ℕ → ℕ → List ℕ → Type 0
Written blocks records files blocks' records' files' d i r =
    (channels : List ℕ) →
    let t = tables blocks records files channels in
    tables blocks' records' files' channels ≡ put t (file d (rewritten (store_of t) d i r))

module _ (blocks records files : List ℕ) (d i : ℕ) (r : List ℕ) (w : Rewritable blocks records files d i r)
    (blocks' records' files' : List ℕ) (e : Written blocks records files blocks' records' files' d i r) where
  abbrev t : Tables
  t = tables blocks records files w.channels

  abbrev t' : Tables
  t' = tables blocks' records' files' w.channels

  pub layout_written : Layout t'
  layout_written = subst Layout (sym (e w.channels)) (put_layout t w.layout (file d (rewritten (store_of t) d i r)) w.fits)

  pub files-written : file_count files' ≡ file_count files
  unfolding store_of
  files-written =
      let change = file d (rewritten (store_of t) d i r) in
      ap (λ (u : Tables). (store_of u).file_count) (e w.channels)
      ∙ ap (λ (s : Store). s.file_count) (put_store t w.layout change w.fits)
      ∙ same-files (store_of t) change

  pub clearable_written : (f : ℕ) → 0 < f → f ≤ file_count files → Clearable records' files' f
  clearable_written f some last =
      let l = layout_written.lengths in
      record { whole = record { few = l.few-blocks; whole = l.block_records_lem }; from_one = some; to_last = rw files-written last }
