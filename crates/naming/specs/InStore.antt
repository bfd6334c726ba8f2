-- A located name's record, found in three tables, is its record in the store; and what is refused before it is located.
use Rattle.std.specs.Prelude.{ℕ, ◌≡◌, ◌≢◌, List, Bool, true, false, Ok}
use Rattle.std.proofs.Common.{sym, ◌∙◌}
use Rattle.std.proofs.Math.Option.{some}
use Rattle.meaning.specs.Name.{syllables}
use Rattle.meaning.specs.Store.{is_directory, named, front}
use Rattle.meaning.specs.Tables.{Tables, tables, store_of}
use Rattle.meaning.specs.Result.{missing}
use Rattle.meaning.specs.NameCalls.{parent, record_for}
use Rattle.meaning.specs.declared.FileNo.{FileNo}
use Rattle.lookup.specs.Filed.{filed, bytes-seen, directory-seen}
use Rattle.naming.specs.Judged.{Judged, OnName}
use Rattle.naming.specs.Located.{In, NewIn, OldIn, Locates, Recorded, new_missing, new_in, old_there, old_in}
use Rattle.naming.specs.At.{At, named-seen, located_shelves, located_counted}
use Rattle.naming.specs.declared.Located.{Located}
use Rattle.naming.specs.declared.Located.TheVariants.{New, Old}

module _ (b br fr cr : List ℕ) where
  abbrev t : Tables
  t = tables b br fr cr

  -- channel records play no part in where a name's record is
  pub record_seen : (name : List (List ℕ)) → record_for (filed b br fr) name ≡ record_for (store_of t) name
  unfolding record_for missing parent
  record_seen name =
      rw (named-seen b br fr cr name, named-seen b br fr cr (front name), ← bytes-seen b br fr cr (named (store_of t) (front name)))

  -- the record that was found is the name's
  pub found_record : (bytes : List ℕ) (k : ℕ) (x : Located) (a : At t bytes k x) (i : ℕ) → Recorded (filed b br fr) bytes i → i ≡ record_for (store_of t) a.name
  found_record bytes k x a i r = r a.name a.is ∙ record_seen a.name

  -- the record of a located name can be found where its directory is one
  module _ (bytes : List ℕ) (h : Judged) (on : OnName t bytes h) (k : ℕ) (e : h ≡ Ok k) (x : Located) (l : Locates (filed b br fr) bytes x) (deep : k ≢ 0) where
    in_it : (d : ℕ) (m : Bool) → is_directory (filed b br fr) d ≡ true
        → ((name : List (List ℕ)) → syllables bytes ≡ some name → (missing (filed b br fr) name ≡ m) × (d ≡ parent (filed b br fr) name)) → In b br fr bytes d m
    in_it d m is facts =
        record {
          shelf = located_shelves b br fr cr bytes h on k e;
          is_directory_lem = is;
          k = k;
          counted = located_counted b br fr cr bytes h on k e;
          deep = deep;
          names = facts;
        }

    pub located_new : (d : FileNo) → x ≡ New d → is_directory (filed b br fr) d.0 ≡ true → NewIn b br fr bytes d.0
    located_new d at is = in_it d.0 true is (λ n read. (new_missing (filed b br fr) n x (l n read) d at, new_in (filed b br fr) n x (l n read) d at))

    pub located_old : (d f : FileNo) → x ≡ Old d f → is_directory (store_of t) d.0 ≡ true → OldIn b br fr bytes d.0
    located_old d f at is =
        in_it d.0 false (sym (directory-seen b br fr cr d.0) ∙ is) (λ n read. (old_there (filed b br fr) n x (l n read) d f at, old_in (filed b br fr) n x (l n read) d f at))
