-- No file is no change; one that goes is cleared.
use Rattle.std.specs.Prelude.{ℕ, ◌≡◌, List, Option, Some, None}
use Rattle.meaning.specs.Store.{file}
use Rattle.meaning.specs.Tables.{tables, put, put_all}
use Rattle.meaning.specs.declared.FileNo.{FileNo}
use Rattle.files.specs.Files.{cleared}
use Rattle.linking.specs.Act.{freed}
use Rattle.linking.proofs.let_go.Goals as goal

module _ (br fr : List ℕ) (x : Option FileNo) where
  stays : x ≡ None → (blocks channels : List ℕ) → tables blocks br fr channels ≡ put_all (tables blocks br fr channels) (freed x)
  unfolding put_all
  stays e blocks channels = rw e

  clears_so : (g : FileNo) → x ≡ Some g → (br' fr' : List ℕ)
      → ((blocks channels : List ℕ) → tables blocks br' fr' channels ≡ put (tables blocks br fr channels) (file g.0 (cleared 0 0)))
      → (blocks channels : List ℕ) → tables blocks br' fr' channels ≡ put_all (tables blocks br fr channels) (freed x)
  unfolding put_all
  clears_so g e br' fr' clears blocks channels = rw e (clears blocks channels)

pub clear_file-requires : goal.clear_file-requires
clear_file-requires c = c.requires.clears _ c.in-Some.is

pub returns-in-Some : goal.returns-in-Some
returns-in-Some c = clears_so _ _ _ _ c.in-Some.is _ _ c.clear_file.ensures

pub returns-in_default : goal.returns-in_default
returns-in_default c = stays _ _ _ c.in_default.is
