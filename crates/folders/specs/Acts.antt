-- A record of directory d is written, and then file f is put: what the code asks, from changes that fit.
use Rattle.std.specs.Prelude.{ℕ, ◌≤◌, ◌<◌, ◌≡◌, List, [], ◌∷◌, true}
use Rattle.std.proofs.Math.Path.{ap}
use Rattle.std.proofs.Common.{◌∙◌}
use Rattle.meaning.specs.Store.{File, file, is_directory}
use Rattle.meaning.specs.NameCalls.{rewritten}
use Rattle.meaning.specs.Tables.{Tables, tables, store_of, file_count, put, put_all}
use Rattle.meaning.specs.Sound.{sound}
use Rattle.layout.specs.Layout.{sound_layout}
use Rattle.layout.specs.Room.{same-files}
use Rattle.files.specs.Files.{Clearable, cleared}
use Rattle.recording.specs.Recording.{Rewritable}
use Rattle.recording.specs.AfterRecord.{Written, clearable_written}
use Rattle.keeping.specs.Sure.{Sure}

-- record i of directory d can be written, and file f is one of the tables'
pub record Able (t : Tables) (d i : ℕ) (r : List ℕ) (f : ℕ) : Type 0 where
  pub small : i < 65536
  pub rewritable : Rewritable t.blocks t.block_records t.file_records d i r
  pub from_one : 0 < f
  pub to_last : f ≤ file_count t.file_records

pub able : (t : Tables) → sound t ≡ true → (d i : ℕ) (r : List ℕ) (f : ℕ) (y : File) → Sure (store_of t) (file d (rewritten (store_of t) d i r) ∷ file f y ∷ [])
    → is_directory (store_of t) d ≡ true → i < 65536 → Able t d i r f
unfolding store_of
able t ok d i r f y sure is small =
    let second = sure.fits.1.0 in
    record {
      small = small;
      rewritable = record { channels = t.channel_records; layout = sound_layout t ok; is_directory_lem = is; fits = sure.fits.0 };
      from_one = second.from_one;
      to_last = rw (same-files (store_of t) (file d (rewritten (store_of t) d i r))) at second.to_last;
    }

-- both changes made
module _ (b br fr cr : List ℕ) (d i : ℕ) (r : List ℕ) (f kind depth : ℕ) (b' br' fr' : List ℕ) (took : Written b br fr b' br' fr' d i r) where
  pub then_clearable : Able (tables b br fr cr) d i r f → Clearable br' fr' f
  then_clearable a = clearable_written b br fr d i r a.rewritable b' br' fr' took f a.from_one a.to_last

  pub both_made : (br'' fr'' : List ℕ)
      → ((blocks channels : List ℕ) → tables blocks br'' fr'' channels ≡ put (tables blocks br' fr' channels) (file f (cleared kind depth)))
      → tables b' br'' fr'' cr ≡ put_all (tables b br fr cr) (file d (rewritten (store_of (tables b br fr cr)) d i r) ∷ file f (cleared kind depth) ∷ [])
  unfolding put_all
  both_made br'' fr'' clears = clears b' cr ∙ ap (λ (u : Tables). put u (file f (cleared kind depth))) (took cr)
