-- A name that stands for a file other than the root: its directory, its record, and the file that goes with it.
use Rattle.std.specs.Prelude.{ℕ, ◌<◌, ◌≡◌, refl, ◌≢◌, List, [], ◌∷◌, true, Option, Some, None, Ok}
use Rattle.std.proofs.Common.{ap, ◌∙◌, arith}
use Rattle.meaning.specs.Name.{record_count}
use Rattle.meaning.specs.Store.{Store, Change, file, no_file, root, is_directory, named}
use Rattle.meaning.specs.Tables.{Tables, store_of}
use Rattle.meaning.specs.NameCalls.{parent, record_for}
use Rattle.meaning.specs.declared.FileNo.{FileNo}
use Rattle.soundness.specs.Well.{Well}
use Rattle.soundness.specs.WellFacts.{directory-form}
use Rattle.lookup.specs.Filed.{filed, sound_well}
use Rattle.trees.specs.Standing.{Standing, some_syllable}
use Rattle.keeping.proofs.Named.{other_standing}
use Rattle.naming.specs.Judged.{Spelled}
use Rattle.naming.specs.Located.{OldIn, Locates}
use Rattle.naming.specs.At.{At, stands_at, not_missing, old_dir}
use Rattle.naming.specs.InStore.{located_old}
use Rattle.naming.specs.declared.Located.{Located}
use Rattle.naming.specs.declared.Located.TheVariants.{Old}
use Rattle.placing.specs.Free.{sized}

-- a file let go, or none
abbrev pub freed : Option FileNo → List Change
freed None = []
freed (Some f) = file f.0 no_file ∷ []

module _ (t : Tables) (bytes : List ℕ) (k : ℕ) (x : Located) (a : At t bytes k x) (d f : FileNo) (old : x ≡ Old d f) (other : named (store_of t) a.name ≢ root) where
  abbrev s : Store
  s = store_of t

  abbrev n : List (List ℕ)
  n = a.name

  w : Well s
  w = sound_well t a.ok

  pub deep : k ≢ 0
  deep e = omega (arith, some_syllable s n other, a.count)

  pub stands : Standing s n
  stands = other_standing s w (sized t a.ok) bytes n a.is (not_missing t bytes k x a d f old) other

  pub in_directory_lem : is_directory s d.0 ≡ true
  in_directory_lem = ap (is_directory s) (old_dir t bytes k x a d f old) ∙ stands.place.directory

  pub small : (i : ℕ) → i ≡ record_for s n → i < 65536
  small i found =
      let l : record_for s n < record_count (s.file (parent s n)).bytes = stands.there in
      omega (arith, (directory-form s w (parent s n) stands.place.directory).size)

-- what the search for its record asks, as the code has it: a name judged well written, then located
module _ (t : Tables) (bytes : List ℕ) (k : ℕ) (sp : Spelled t bytes k) (x : Located) (l : Locates (filed t.blocks t.block_records t.file_records) bytes x) where
  abbrev at : At t bytes k x
  at = stands_at t.blocks t.block_records t.file_records t.channel_records bytes k sp x l

  pub old_place : (d f : FileNo) → x ≡ Old d f → named (store_of t) at.name ≢ root → OldIn t.blocks t.block_records t.file_records bytes d.0
  old_place d f old other =
      located_old t.blocks t.block_records t.file_records t.channel_records bytes (Ok k) sp k refl x l (deep t bytes k x at d f old other) d f old
      (in_directory_lem t bytes k x at d f old other)
