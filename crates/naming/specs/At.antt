-- A name of a sound store, judged and located: what the calls on names go by.
use Rattle.std.specs.Prelude.{ℕ, ◌≡◌, refl, ◌≢◌, List, Bool, true, false, length, Option, Ok}
use Rattle.std.proofs.Common.{ap, sym, ◌∙◌}
use Rattle.std.proofs.Math.Option.{some}
use Rattle.meaning.specs.Name.{syllables}
use Rattle.meaning.specs.Store.{Store, root, is_directory, named, front}
use Rattle.meaning.specs.Tables.{Tables, tables, store_of}
use Rattle.meaning.specs.Sound.{sound}
use Rattle.meaning.specs.Result.{Result, unless, with_syllables, missing, nowhere}
use Rattle.meaning.specs.NameCalls.{parent}
use Rattle.meaning.specs.Types.{file_or_zero}
use Rattle.meaning.specs.declared.FileNo.{FileNo}
use Rattle.names.specs.FormLaws.{Counted}
use Rattle.soundness.specs.Seen.{files_store, is_directory-seen}
use Rattle.lookup.specs.Walk.{named-walk}
use Rattle.lookup.specs.Filed.{filed, Shelves, shelves, walk-seen, directory-seen}
use Rattle.naming.specs.Judged.{Judged, Spelled, OnName, on_name_of, spelled}
use Rattle.naming.specs.Located.{Locates, located, nowhere_is, nowhere_unnamed, nowhere_in, new_missing, new_unnamed, new_directory, new_in, new_somewhere, old_there, old_in, old_file, old_somewhere}
use Rattle.naming.specs.declared.Located.{Located}
use Rattle.naming.specs.declared.Located.TheVariants.{Nowhere, New, Old}

-- the bytes spell a name of k syllables, and x is where it stands
pub record At (t : Tables) (bytes : List ℕ) (k : ℕ) (x : Located) : Type 0 where
  pub ok : sound t ≡ true
  pub name : List (List ℕ)
  pub is : syllables bytes ≡ some name
  pub count : length name ≡ k
  pub stands : x ≡ located (store_of t) name

module _ (b br fr cr : List ℕ) where
  pub named-seen : (name : List (List ℕ)) → named (filed b br fr) name ≡ named (store_of (tables b br fr cr)) name
  named-seen name = named-walk (filed b br fr) name ∙ sym (walk-seen b br fr cr root name) ∙ sym (named-walk (store_of (tables b br fr cr)) name)

  pub missing-seen : (name : List (List ℕ)) → missing (filed b br fr) name ≡ missing (store_of (tables b br fr cr)) name
  unfolding missing
  missing-seen name = rw (named-seen name)

  located-seen : (name : List (List ℕ)) → located (filed b br fr) name ≡ located (store_of (tables b br fr cr)) name
  unfolding located parent
  located-seen name =
      rw (missing-seen name, named-seen name, named-seen (front name), ← directory-seen b br fr cr (named (store_of (tables b br fr cr)) (front name)))

  -- a name that is judged can be located, and then stands where it is found
  pub judged_shelves : (bytes : List ℕ) (k : ℕ) → Spelled (tables b br fr cr) bytes k → Shelves b br fr
  judged_shelves bytes k s = shelves b br fr cr s.ok

  pub stands_at : (bytes : List ℕ) (k : ℕ) → Spelled (tables b br fr cr) bytes k → (x : Located) → Locates (filed b br fr) bytes x → At (tables b br fr cr) bytes k x
  stands_at bytes k s x l =
      let n = s.counted.name in
      record {
        ok = s.ok;
        name = n;
        is = s.counted.is;
        count = s.counted.count;
        stands = l n s.counted.is ∙ located-seen n;
      }

-- ---- the cases of a located name, as the code meets them

module _ (t : Tables) (bytes : List ℕ) (k : ℕ) (x : Located) (a : At t bytes k x) where
  abbrev s : Store
  s = store_of t

  -- a file is a directory, as its record has it
  record-directory : (f g : ℕ) → f ≡ g → (v : Bool) → v ≡ is_directory (files_store t.file_records) f → is_directory s g ≡ v
  record-directory f g same v e = ap (is_directory s) (sym same) ∙ is_directory-seen t f ∙ sym e

  -- a new name without its directory
  module _ (p : Option FileNo) (at : x ≡ Nowhere p) where
    pub is_nowhere : (missing s a.name ≡ true) × (nowhere s a.name ≡ true)
    is_nowhere = nowhere_is s a.name x a.stands p at

    pub nowhere_stands : named s a.name ≡ 0
    nowhere_stands = nowhere_unnamed s a.name x a.stands p at

    -- what stands where its directory would be
    pub nowhere_dir : file_or_zero p ≡ parent s a.name
    nowhere_dir = nowhere_in s a.name x a.stands p at

    -- it is a directory, or is not
    pub nowhere-parent-directory : (v : Bool) → v ≡ is_directory (files_store t.file_records) (file_or_zero p) → is_directory s (parent s a.name) ≡ v
    nowhere-parent-directory = record-directory (file_or_zero p) (parent s a.name) nowhere_dir

  -- a new name in a directory
  module _ (d : FileNo) (at : x ≡ New d) where
    pub is_missing : missing s a.name ≡ true
    is_missing = new_missing s a.name x a.stands d at

    pub unnamed : named s a.name ≡ 0
    unnamed = new_unnamed s a.name x a.stands d at

    pub somewhere : nowhere s a.name ≡ false
    somewhere = new_somewhere s a.name x a.stands d at

    pub new_dir : d.0 ≡ parent s a.name
    new_dir = new_in s a.name x a.stands d at

    pub parent-directory : is_directory s (parent s a.name) ≡ true
    parent-directory = new_directory s a.name x a.stands d at

  -- a name that stands for a file
  module _ (d f : FileNo) (at : x ≡ Old d f) where
    pub not_missing : missing s a.name ≡ false
    not_missing = old_there s a.name x a.stands d f at

    pub there : nowhere s a.name ≡ false
    there = old_somewhere s a.name x a.stands d f at

    pub old_dir : d.0 ≡ parent s a.name
    old_dir = old_in s a.name x a.stands d f at

    -- the directory is one, or is not
    pub old-parent-directory : (v : Bool) → v ≡ is_directory (files_store t.file_records) d.0 → is_directory s (parent s a.name) ≡ v
    old-parent-directory = record-directory d.0 (parent s a.name) old_dir

    pub stands_for : f.0 ≡ named s a.name
    stands_for = old_file s a.name x a.stands d f at

    -- it is a directory, or is not
    pub file-directory : (v : Bool) → v ≡ is_directory (files_store t.file_records) f.0 → is_directory s (named s a.name) ≡ v
    file-directory = record-directory f.0 (named s a.name) stands_for

  -- a name that stands for no file
  not_old_is : (y : Located) → x ≡ y → ((d f : FileNo) → y ≢ Old d f) → missing s a.name ≡ true
  not_old_is (Nowhere p) e other = (is_nowhere p e).0
  not_old_is (New d) e other = is_missing d e
  not_old_is (Old d f) e other = absurd (other d f refl)

  pub not_old : ((d f : FileNo) → x ≢ Old d f) → missing s a.name ≡ true
  not_old = not_old_is x refl

  -- what follows on the name is what the call gives
  pub follows : (rest : List (List ℕ) → Result) → rest a.name ≡ on_name_of t bytes rest
  unfolding on_name_of unless with_syllables
  follows rest = rw (a.ok, a.is)

-- ---- the same, as the code has it: a name judged well written, then located

module _ (b br fr cr bytes : List ℕ) (h : Judged) (on : OnName (tables b br fr cr) bytes h) (k : ℕ) (e : h ≡ Ok k) where
  pub located_shelves : Shelves b br fr
  located_shelves = judged_shelves b br fr cr bytes k (spelled (tables b br fr cr) bytes h on k e)

  pub located_counted : Counted (syllables bytes) k
  located_counted = (spelled (tables b br fr cr) bytes h on k e).counted

  pub located_at : (x : Located) → Locates (filed b br fr) bytes x → At (tables b br fr cr) bytes k x
  located_at x l = stands_at b br fr cr bytes k (spelled (tables b br fr cr) bytes h on k e) x l
