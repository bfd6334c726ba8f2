-- Link: what its decision stands for.
use Rattle.std.specs.Prelude.{ℕ, ◌-◌, ◌≤◌, ◌≡◌, List, [], false, true, length, Result as Answers}
use Rattle.meaning.specs.File.{needed, longest}
use Rattle.meaning.specs.Name.{syllables}
use Rattle.meaning.specs.Store.{is_directory, free_blocks, named}
use Rattle.meaning.specs.Tables.{Tables, store_of}
use Rattle.meaning.specs.Types.{file_numbered}
use Rattle.meaning.specs.Sound.{sound}
use Rattle.meaning.specs.Result.{Result, done, missing, nowhere}
use Rattle.meaning.specs.NameCalls.{parent, record_for, naming}
use Rattle.meaning.specs.Run.{Call, result_of}
use Rattle.meaning.specs.Decisions.{Decides}
use Rattle.meaning.specs.declared.Report.{Report}
use Rattle.names.specs.FormLaws.{Counted}
use Rattle.counts.specs.Gone.{gone_with}
use Rattle.linking.specs.Act.{link_changes}
use Rattle.linking.specs.declared.Plan.{Plan}

-- no cause of a refusal of link holds: what the plan says is so, and there is room
pub record Accepted (t : Tables) (old new : List ℕ) (p : Plan) : Type 0 where
  pub ok : sound t ≡ true
  -- the old name
  pub j : ℕ
  pub old-name : Counted (syllables old) j
  pub there : missing (store_of t) old-name.name ≡ false
  pub ordinary : is_directory (store_of t) (named (store_of t) old-name.name) ≡ false
  pub from_is : p.from.0 ≡ parent (store_of t) old-name.name
  pub file_is : p.file.0 ≡ named (store_of t) old-name.name
  -- the new name
  pub k : ℕ
  pub new-name : Counted (syllables new) k
  pub here : nowhere (store_of t) new-name.name ≡ false
  pub plain : is_directory (store_of t) (named (store_of t) new-name.name) ≡ false
  pub to_is : p.to.0 ≡ parent (store_of t) new-name.name
  pub place : p.place ≡ record_for (store_of t) new-name.name
  pub gone_is : p.gone ≡ file_numbered (gone_with (store_of t) (named (store_of t) new-name.name))
  -- the room
  pub size : length (naming (store_of t) new-name.name (named (store_of t) old-name.name)).bytes ≤ longest
  pub room : needed (length (naming (store_of t) new-name.name (named (store_of t) old-name.name)).bytes)
      - needed (length ((store_of t).file (parent (store_of t) new-name.name)).bytes) ≤ free_blocks (store_of t)

-- what link gives where it goes by the plan
abbrev pub link_given : Tables → List ℕ → Plan → Result
link_given t new p = done [] [] (link_changes (store_of t) new p)

abbrev pub DecidesLink : Tables → List ℕ → List ℕ → Answers Plan Report → Type 0
DecidesLink t old new d = Decides (link_given t new) (Accepted t old new) (result_of (Call.Link old new) t) d
