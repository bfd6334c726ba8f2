-- What link does in the tables: the new name's record given, and the file that it stood for let go.
use Rattle.std.specs.Prelude.{ℕ, ◌≤◌, ◌<◌, ◌≡◌, List, [], ◌∷◌, true, length, eqb, Option, Some, None}
use Rattle.records.specs.Rows.{pick}
use Rattle.meaning.specs.Name.{is_syllable, blank_record}
use Rattle.meaning.specs.Store.{Store, Change, file, no_file}
use Rattle.meaning.specs.NameCalls.{rewritten}
use Rattle.meaning.specs.Tables.{tables, store_of, file_count, put_all}
use Rattle.meaning.specs.Run.{Lent}
use Rattle.meaning.specs.declared.FileNo.{FileNo}
use Rattle.names.specs.Syllables.{part, last_start}
use Rattle.files.specs.Files.{Clearable}
use Rattle.recording.specs.Recording.{record_of, Rewritable}
use Rattle.linking.specs.declared.Plan.{Plan}

-- the file that goes with the new name goes where it is another file than the old name's
abbrev pub unlike : FileNo → Option FileNo → Option FileNo
unlike f None = None
unlike f (Some g) = pick (eqb g.0 f.0) None (Some g)

unfoldable pub goes : Plan → Option FileNo
goes p = unlike p.file p.gone

-- the old name's file goes where a move takes its name: the new name was its own too, and it had no other and no channel
abbrev pub like : FileNo → Option FileNo → Option FileNo
like f None = None
like f (Some g) = pick (eqb g.0 f.0) (Some f) None

unfoldable pub last_goes : Plan → Option FileNo
last_goes p = like p.file p.gone

-- a file let go, or nothing
abbrev pub freed : Option FileNo → List Change
freed None = []
freed (Some g) = file g.0 no_file ∷ []

-- the changes of link
unfoldable pub link_changes : Store → List ℕ → Plan → List Change
link_changes s new p = file p.to.0 (rewritten s p.to.0 p.place (record_of p.file.0 new)) ∷ freed (goes p)

-- the changes of taking the old name
unfoldable pub drop_changes : Store → Plan → ℕ → List Change
drop_changes s p i = file p.from.0 (rewritten s p.from.0 i blank_record) ∷ freed (last_goes p)

-- ---- what is asked

-- a file that is to go is one of the tables'
pub record MayGo (records files : List ℕ) (going : Option FileNo) : Type 0 where
  pub clears : (g : FileNo) → going ≡ Some g → Clearable records files g.0

-- the directory has room for the record, and the file that goes is one of the tables'
pub record Linkable (blocks records files new : List ℕ) (p : Plan) : Type 0 where
  pub giving : Rewritable blocks records files p.to.0 p.place (record_of p.file.0 new)
  pub few : p.place < 65536
  pub begins : last_start new ≤ length new
  pub spelled : is_syllable (part new (last_start new) (length new)) ≡ true
  pub replaced : (g : FileNo) → goes p ≡ Some g → (0 < g.0) × (g.0 ≤ file_count files)

-- the old name's record is there, and its file is one of the tables' where it goes
pub record Droppable (blocks records files : List ℕ) (p : Plan) (i : ℕ) : Type 0 where
  pub taking : Rewritable blocks records files p.from.0 i blank_record
  pub few : i < 65536
  pub own : (g : FileNo) → last_goes p ≡ Some g → (0 < g.0) × (g.0 ≤ file_count files)

-- ---- what is promised, whatever channel records lie beside

abbrev pub LetsGo : Lent → Lent → Option FileNo → Type 0
LetsGo br fr going =
    (blocks channels : List ℕ)
    → tables blocks br.exit.now fr.exit.now channels ≡ put_all (tables blocks br.entry.now fr.entry.now channels) (freed going)

abbrev pub Drops : Lent → Lent → Lent → Plan → ℕ → Type 0
Drops b br fr p i =
    (channels : List ℕ) →
    let t = tables b.entry.now br.entry.now fr.entry.now channels in
    tables b.exit.now br.exit.now fr.exit.now channels ≡ put_all t (drop_changes (store_of t) p i)

abbrev pub Links : Lent → Lent → Lent → List ℕ → Plan → Type 0
Links b br fr new p =
    (channels : List ℕ) →
    let t = tables b.entry.now br.entry.now fr.entry.now channels in
    tables b.exit.now br.exit.now fr.exit.now channels ≡ put_all t (link_changes (store_of t) new p)
