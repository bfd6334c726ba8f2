-- A name that a file is to get, by the cases of where it stands.
use Rattle.std.specs.Prelude.{ℕ, ◌≤◌, ◌≡◌, refl, ◌≢◌, List, Bool, true, false, Option, None, Ok, Err}
use Rattle.std.proofs.Common.{ap, sym, subst, ◌∙◌, arith}
use Rattle.std.proofs.Math.Option.{some}
use Rattle.records.specs.Rows.{pick}
use Rattle.meaning.specs.Name.{syllables}
use Rattle.meaning.specs.Store.{Store, root, is_directory, named}
use Rattle.meaning.specs.Tables.{Tables, tables, store_of, file_count}
use Rattle.meaning.specs.Types.{file_numbered, none-numbered}
use Rattle.meaning.specs.Result.{unless, nowhere}
use Rattle.meaning.specs.declared.FileNo.{FileNo}
use Rattle.meaning.specs.declared.Report.TheVariants.{NoSuchName, IsDirectory}
use Rattle.soundness.specs.Use.{used}
use Rattle.soundness.specs.Well.{Well}
use Rattle.soundness.specs.Seen.{files_store}
use Rattle.lookup.specs.Filed.{filed, sound_well}
use Rattle.counts.specs.Gone.{gone_with}
use Rattle.counts.specs.OfStore.{OfStore, of_store}
use Rattle.trees.specs.Standing.{some_syllable}
use Rattle.keeping.specs.Sure.{Sized}
use Rattle.keeping.specs.OnChannels.{named_used}
use Rattle.keeping.proofs.Named.{plain_other, other_standing}
use Rattle.naming.specs.Judged.{Spelled}
use Rattle.naming.specs.Located.{NewIn, OldIn, Locates, Recorded}
use Rattle.naming.specs.LocateLaws.{one_name}
use Rattle.naming.specs.At as A
use Rattle.naming.specs.InStore.{found_record, located_old}
use Rattle.naming.specs.declared.Located.{Located}
use Rattle.naming.specs.declared.Located.TheVariants.{Nowhere, New, Old}
use Rattle.placing.specs.Free.{sized, no_directory}
use Rattle.placing.specs.NewName.{new_place}
use Rattle.linking.specs.Names.{Here}
use Rattle.linking.specs.NewName.{NewName, OnNewName}

-- with no file none goes
none_goes : (s : Store) (f : ℕ) → f ≡ 0 → gone_with s f ≡ 0
unfolding gone_with
none_goes s f e = go _ f e
  where
    go : (b : Bool) (f : ℕ) → f ≡ 0 → pick b f 0 ≡ 0
    go true f e = e
    go false f e = refl

-- what the search for a located name's record asks
pub record InPlace (b br fr bytes : List ℕ) (x : Located) : Type 0 where
  pub new-name : (d : FileNo) → x ≡ New d → NewIn b br fr bytes d.0
  pub old-name : (d f : FileNo) → x ≡ Old d f → OldIn b br fr bytes d.0

module _ (b br fr cr bytes : List ℕ) (x : Located) (h : Here (tables b br fr cr) bytes x) where
  abbrev t : Tables
  t = tables b br fr cr

  abbrev s : Store
  s = store_of t

  abbrev name : List (List ℕ)
  name = h.at.name

  well : Well s
  well = sound_well t h.at.ok

  size_of : Sized s
  size_of = sized t h.at.ok

  -- the bytes spell no other name
  of_name : (P : List (List ℕ) → Type 0) → P name → (n : List (List ℕ)) → syllables bytes ≡ some n → P n
  of_name P p n is = subst P (one_name (syllables bytes) name n h.at.is is) p

  spells : Spelled t bytes h.k
  spells = record { ok = h.at.ok; counted = h.counted }

  pub new-nowhere : (p : Option FileNo) → x ≡ Nowhere p → OnNewName t bytes (Err NoSuchName)
  unfolding unless
  new-nowhere p e n is r =
      let gone : nowhere s n ≡ true = of_name (λ n. nowhere s n ≡ true) (A.is_nowhere t bytes h.k x h.at p e).1 n is in
      rw gone

  -- a new name
  module _ (d : FileNo) (e : x ≡ New d) where
    unnamed : named s name ≡ 0
    unnamed = A.unnamed t bytes h.k x h.at d e

    pub can_add : NewIn b br fr bytes d.0
    can_add = new_place t bytes h.k spells d (subst (Locates (filed b br fr) bytes) e h.located)

    pub added : (i : ℕ) → Recorded (filed b br fr) bytes i → OnNewName t bytes (Ok (d, i, None))
    added i r =
        of_name (λ n. NewName s n d i None)
        (record {
          here = A.somewhere t bytes h.k x h.at d e;
          plain = no_directory s (named s name) unnamed;
          to_is = A.new_dir t bytes h.k x h.at d e;
          place = found_record b br fr cr bytes h.k x h.at i r;
          gone_is = none-numbered (gone_with s (named s name)) (none_goes s (named s name) unnamed);
        })

  -- a name that stands for a file
  module _ (d f : FileNo) (e : x ≡ Old d f) (v : Bool) (tells : v ≡ is_directory (files_store fr) f.0) where
    old_here : nowhere s name ≡ false
    old_here = A.there t bytes h.k x h.at d f e

    old_is : is_directory s (named s name) ≡ v
    old_is = A.file-directory t bytes h.k x h.at d f e v tells

    pub new-directory : v ≡ true → OnNewName t bytes (Err IsDirectory)
    unfolding unless
    new-directory is-v n is r =
        let facts : (nowhere s n ≡ false) × (is_directory s (named s n) ≡ true) =
        of_name (λ n. (nowhere s n ≡ false) × (is_directory s (named s n) ≡ true)) (old_here, old_is ∙ is-v) n is in
        rw (facts.0, facts.1)

    module _ (plain-v : v ≡ false) where
      old_plain : is_directory s (named s name) ≡ false
      old_plain = old_is ∙ plain-v

      other : named s name ≢ root
      other = plain_other s well size_of bytes name h.at.is old_plain

      pub can_replace : OldIn b br fr bytes d.0
      can_replace =
          let deep : h.k ≢ 0 = (let more = some_syllable s name other in omega (arith, more, h.at.count)) in
          located_old b br fr cr bytes (Ok h.k) spells h.k refl x h.located deep d f e
          (ap (is_directory s) (A.old_dir t bytes h.k x h.at d f e)
          ∙ (other_standing s well size_of bytes name h.at.is (A.not_missing t bytes h.k x h.at d f e) other).place.directory)

      pub can_count : OfStore b br fr f.0
      unfolding store_of
      can_count =
          let u = used s (named s name) (named_used s well size_of bytes name h.at.is (A.not_missing t bytes h.k x h.at d f e)) in
          of_store t h.at.ok f.0 (omega (arith, u.within, A.stands_for t bytes h.k x h.at d f e))

      -- the file that the name stands for is one of the tables'
      pub replaced_few : f.0 ≤ file_count fr
      replaced_few = can_count.to_last

      pub replaced : (i : ℕ) → Recorded (filed b br fr) bytes i → (gone : Option FileNo) → gone ≡ file_numbered (gone_with s f.0) → OnNewName t bytes (Ok (d, i, gone))
      replaced i r gone is =
          of_name (λ n. NewName s n d i gone)
          (record {
            here = old_here;
            plain = old_plain;
            to_is = A.old_dir t bytes h.k x h.at d f e;
            place = found_record b br fr cr bytes h.k x h.at i r;
            gone_is = is ∙ ap (λ (g : ℕ). file_numbered (gone_with s g)) (A.stands_for t bytes h.k x h.at d f e);
          })

  -- its directory can be searched for the name's record, or for room for one
  pub in_place : is_directory s (named s name) ≡ false → InPlace b br fr bytes x
  in_place plain =
      record {
        new-name = λ d e. can_add d e;
        old-name = λ d f e. can_replace d f e (is_directory (files_store fr) f.0) refl (sym (old_is d f e (is_directory (files_store fr) f.0) refl) ∙ plain);
      }
