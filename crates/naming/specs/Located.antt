-- Where a name stands: its directory, its file, its record.
use Rattle.std.specs.Prelude.{ℕ, ◌≡◌, refl, ◌≢◌, List, Bool, true, false, Option}
use Rattle.std.proofs.Common.{ap, sym, ◌∙◌, arith, ne_eqb, ⊎_elim, true≢false}
use Rattle.records.specs.Tests.{same_or_not}
use Rattle.std.proofs.Math.Option.{some}
use Rattle.records.specs.Rows.{pick}
use Rattle.meaning.specs.Name.{syllables}
use Rattle.meaning.specs.Store.{Store, is_directory, named}
use Rattle.meaning.specs.Result.{missing, nowhere}
use Rattle.meaning.specs.NameCalls.{parent, record_for}
use Rattle.meaning.specs.Types.{file_numbered, file_or_zero, or_zero_is}
use Rattle.meaning.specs.declared.FileNo.{FileNo}
use Rattle.names.specs.FormLaws.{Counted}
use Rattle.lookup.specs.Filed.{filed, Shelves}
use Rattle.naming.specs.declared.Located.{Located}
use Rattle.naming.specs.declared.Located.TheVariants.{Nowhere, New, Old}

abbrev pub file_no : ℕ → FileNo
file_no n = record { 0 = n }

-- no directory for the name, and what stands in its place; a directory in which it is new; or its directory and its file
unfoldable pub located : Store → List (List ℕ) → Located
located s name =
    let d = parent s name in
    pick (missing s name) (pick (is_directory s d) (New (file_no d)) (Nowhere (file_numbered d))) (Old (file_no d) (file_no (named s name)))

-- where the name that some bytes spell stands
abbrev pub Locates : Store → List ℕ → Located → Type 0
Locates s bytes x = (name : List (List ℕ)) → syllables bytes ≡ some name → x ≡ located s name

-- the place of the name's record
abbrev pub Recorded : Store → List ℕ → ℕ → Type 0
Recorded s bytes i = (name : List (List ℕ)) → syllables bytes ≡ some name → i ≡ record_for s name

-- a directory whose records can be read, and a name that lies there
pub record In (blocks records files bytes : List ℕ) (d : ℕ) (is_missing : Bool) : Type 0 where
  pub shelf : Shelves blocks records files
  pub is_directory_lem : is_directory (filed blocks records files) d ≡ true
  pub k : ℕ
  pub counted : Counted (syllables bytes) k
  pub deep : k ≢ 0
  pub names : (name : List (List ℕ)) → syllables bytes ≡ some name → (missing (filed blocks records files) name ≡ is_missing) × (d ≡ parent (filed blocks records files) name)

-- in which it is new, or has a record
abbrev pub NewIn : List ℕ → List ℕ → List ℕ → List ℕ → ℕ → Type 0
NewIn blocks records files bytes d = In blocks records files bytes d true

abbrev pub OldIn : List ℕ → List ℕ → List ℕ → List ℕ → ℕ → Type 0
OldIn blocks records files bytes d = In blocks records files bytes d false

-- ---- what each case says

-- the cases are known by their parts
nowhere_one : (p q : Option FileNo) → Nowhere p ≡ Nowhere q → p ≡ q
nowhere_one p q is = cc

new_one : (d e : FileNo) → New d ≡ New e → d.0 ≡ e.0
new_one d e is = let same : d ≡ e = cc in ap (λ (f : FileNo). f.0) same

old_one : (d e f g : FileNo) → Old d f ≡ Old e g → (d.0 ≡ e.0) × (f.0 ≡ g.0)
old_one d e f g is =
    let same : d ≡ e = cc in
    let as_well : f ≡ g = cc in
    (ap (λ (f : FileNo). f.0) same, ap (λ (f : FileNo). f.0) as_well)

-- a missing name stands for no file
no_name : (s : Store) (name : List (List ℕ)) → missing s name ≡ true → named s name ≡ 0
unfolding missing
no_name s name gone =
    ⊎_elim
    (λ (z : named s name ≡ 0). z)
    (λ (z : named s name ≢ 0). let no : true ≡ false = sym gone ∙ ne_eqb (named s name) 0 z in absurd (true≢false no))
    (same_or_not (named s name) 0)

abbrev is_old : Located → ℕ
is_old (Nowhere p) = 0
is_old (New d) = 1
is_old (Old d f) = 2

module _ (s : Store) (name : List (List ℕ)) (x : Located) (is : x ≡ located s name) where
  abbrev d : ℕ
  d = parent s name

  -- by whether the name is missing and its directory is there
  by_tests : (m v : Bool) → missing s name ≡ m → is_directory s d ≡ v → x ≡ pick m (pick v (New (file_no d)) (Nowhere (file_numbered d))) (Old (file_no d) (file_no (named s name)))
  unfolding located
  by_tests m v e t = rw (e, t) at is

  module _ (p : Option FileNo) (at : x ≡ Nowhere p) where
    nowhere_facts : (m v : Bool) → missing s name ≡ m → is_directory s d ≡ v → (m ≡ true) × (v ≡ false) × (p ≡ file_numbered d)
    nowhere_facts true false q r = (refl, refl, nowhere_one p (file_numbered d) (sym at ∙ by_tests true false q r))
    nowhere_facts true true q r = let z : ◌≡◌ {A = ℕ} 0 1 = ap is_old (sym at ∙ by_tests true true q r) in absurd (omega arith)
    nowhere_facts false v q r = let z : ◌≡◌ {A = ℕ} 0 2 = ap is_old (sym at ∙ by_tests false v q r) in absurd (omega arith)

    pub nowhere_is : (missing s name ≡ true) × (nowhere s name ≡ true)
    unfolding nowhere parent
    nowhere_is = let facts = nowhere_facts _ _ refl refl in (facts.0, rw (facts.0, facts.1))

    pub nowhere_unnamed : named s name ≡ 0
    nowhere_unnamed = no_name s name nowhere_is.0

    -- what stands where its directory would be
    pub nowhere_in : file_or_zero p ≡ parent s name
    nowhere_in = or_zero_is p d (nowhere_facts _ _ refl refl).2

  module _ (e : FileNo) (at : x ≡ New e) where
    new_facts : (m v : Bool) → missing s name ≡ m → is_directory s d ≡ v → (m ≡ true) × (v ≡ true) × (e.0 ≡ d)
    new_facts true true p q = (refl, refl, new_one e (file_no d) (sym at ∙ by_tests true true p q))
    new_facts true false p q = let z : ◌≡◌ {A = ℕ} 1 0 = ap is_old (sym at ∙ by_tests true false p q) in absurd (omega arith)
    new_facts false v p q = let z : ◌≡◌ {A = ℕ} 1 2 = ap is_old (sym at ∙ by_tests false v p q) in absurd (omega arith)

    pub new_missing : missing s name ≡ true
    new_missing = (new_facts _ _ refl refl).0

    pub new_unnamed : named s name ≡ 0
    new_unnamed = no_name s name new_missing

    pub new_directory : is_directory s (parent s name) ≡ true
    new_directory = (new_facts _ _ refl refl).1

    pub new_in : e.0 ≡ parent s name
    new_in = (new_facts _ _ refl refl).2

    pub new_somewhere : nowhere s name ≡ false
    unfolding nowhere parent
    new_somewhere = rw (new_missing, new_directory)

  module _ (e f : FileNo) (at : x ≡ Old e f) where
    old_facts : (m v : Bool) → missing s name ≡ m → is_directory s d ≡ v → (m ≡ false) × (e.0 ≡ d) × (f.0 ≡ named s name)
    old_facts true true p q = let z : ◌≡◌ {A = ℕ} 2 1 = ap is_old (sym at ∙ by_tests true true p q) in absurd (omega arith)
    old_facts true false p q = let z : ◌≡◌ {A = ℕ} 2 0 = ap is_old (sym at ∙ by_tests true false p q) in absurd (omega arith)
    old_facts false v p q =
        let parts = old_one e (file_no d) f (file_no (named s name)) (sym at ∙ by_tests false v p q) in
        (refl, parts.0, parts.1)

    pub old_there : missing s name ≡ false
    old_there = (old_facts _ _ refl refl).0

    pub old_in : e.0 ≡ parent s name
    old_in = (old_facts _ _ refl refl).1

    pub old_file : f.0 ≡ named s name
    old_file = (old_facts _ _ refl refl).2

    pub old_somewhere : nowhere s name ≡ false
    unfolding nowhere
    old_somewhere = rw old_there
