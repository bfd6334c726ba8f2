-- Link's refusals in their order, by the tests that lead there; and what is known where none comes.
use Rattle.std.specs.Prelude.{ℕ, ◌+◌, ◌*◌, ◌≤◌, max, ◌≡◌, ◌≢◌, List, Bool, true, false, length, Option, Ok, Err}
use Rattle.std.proofs.Math.Path.{sym, ap}
use Rattle.std.proofs.Common.{◌∙◌}
use Rattle.meaning.specs.Store.{Store, is_directory, named}
use Rattle.meaning.specs.Tables.{Tables, tables, store_of, file_length}
use Rattle.meaning.specs.Sound.{sound}
use Rattle.meaning.specs.Result.{Result, refused, unless, missing}
use Rattle.meaning.specs.NameCalls.{naming, if_naming_fits}
use Rattle.meaning.specs.Run.{Call, result_of}
use Rattle.meaning.specs.Decisions.{refusing, planning}
use Rattle.meaning.specs.declared.FileNo.{FileNo}
use Rattle.meaning.specs.declared.Report.{Report}
use Rattle.meaning.specs.declared.Report.TheVariants.{NoSuchName, IsDirectory}
use Rattle.tables.specs.Searches.{free_block_count}
use Rattle.soundness.specs.Seen.{files_store, is_directory-seen}
use Rattle.lookup.specs.Filed.{sound_well}
use Rattle.trees.specs.Standing.{Place}
use Rattle.keeping.proofs.Named.{plain_place}
use Rattle.naming.specs.At as A
use Rattle.naming.specs.declared.Located.{Located}
use Rattle.naming.specs.declared.Located.TheVariants.{Old}
use Rattle.recording.specs.Fit.{FitsIn, if_fits_in}
use Rattle.placing.specs.Free.{sized}
use Rattle.placing.specs.Room as R
use Rattle.linking.specs.Names.{Both, FindsNames}
use Rattle.linking.specs.NewName.{NewName, OnNewName}
use Rattle.linking.specs.Link.{Accepted, link_given, DecidesLink}
use Rattle.linking.specs.LinkRest.{follows, link_rest, on_link, link-refusal}
use Rattle.linking.specs.ActLaws.{means}
use Rattle.linking.specs.declared.Plan.{Plan}

module _ (b br fr cr old new : List ℕ) where
  abbrev t : Tables
  t = tables b br fr cr

  abbrev s : Store
  s = store_of t

  -- as each refusal is made
  abbrev refuse : (why : Report) → refused why ≡ result_of (Call.Link old new) t → DecidesLink t old new (Err why)
  refuse why e = refusing (link_given t new) (Accepted t old new) (result_of (Call.Link old new) t) why e

  pub no_names : (why : Report) → FindsNames t old new (Err why) → DecidesLink t old new (Err why)
  no_names why e = refuse why (link-refusal t old new why e)

  module _ (x y : Located) (both : Both t old new x y) where
    abbrev from : List (List ℕ)
    from = both.old-name.at.name

    abbrev to : List (List ℕ)
    to = both.new-name.at.name

    pub is_sound : sound t ≡ true
    is_sound = both.new-name.at.ok

    given : link_rest t from to ≡ result_of (Call.Link old new) t
    given = follows t old new from to is_sound both.old-name.at.is both.new-name.at.is (link_rest t) ∙ on_link t old new

    -- the old name stands for nothing
    pub no_old : ((d f : FileNo) → x ≢ Old d f) → DecidesLink t old new (Err NoSuchName)
    unfolding unless
    no_old other = let gone : missing s from ≡ true = A.not_old t old both.old-name.k x both.old-name.at other in refuse NoSuchName (rw gone at given)

    -- it stands for a file
    module _ (d f : FileNo) (at : x ≡ Old d f) (v : Bool) (tells : v ≡ is_directory (files_store fr) f.0) where
      there : missing s from ≡ false
      there = A.not_missing t old both.old-name.k x both.old-name.at d f at

      old_is : is_directory s (named s from) ≡ v
      old_is = A.file-directory t old both.old-name.k x both.old-name.at d f at v tells

      pub old-directory : v ≡ true → DecidesLink t old new (Err IsDirectory)
      unfolding unless
      old-directory is = let as_directory : is_directory s (named s from) ≡ true = old_is ∙ is in refuse IsDirectory (rw (there, as_directory) at given)

      -- an ordinary one
      module _ (plain-v : v ≡ false) where
        ordinary : is_directory s (named s from) ≡ false
        ordinary = old_is ∙ plain-v

        pub no_new : (why : Report) → OnNewName t new (Err why) → DecidesLink t old new (Err why)
        unfolding unless
        no_new why on = refuse why (on to both.new-name.at.is _ ∙ (rw (there, ordinary) at given))

        -- the new name can be given
        module _ (e : FileNo) (i : ℕ) (gone : Option FileNo) (on : OnNewName t new (Ok (e, i, gone))) where
          its : NewName s to e i gone
          its = on to both.new-name.at.is

          at_place : Place s to
          at_place = plain_place s (sound_well t is_sound) (sized t is_sound) new to both.new-name.at.is its.here its.plain

          pub here_directory : is_directory (files_store fr) e.0 ≡ true
          here_directory = sym (is_directory-seen t e.0) ∙ ap (is_directory s) its.to_is ∙ at_place.directory

          abbrev size : ℕ
          size = file_length fr e.0

          pub few-records : (size ≤ 32768) × (i ≤ 2048)
          few-records = R.few-records t is_sound to at_place e.0 its.to_is i its.place

          new-size : length (naming s to (named s from)).bytes ≡ max size (16 * i + 16)
          new-size = R.new-size t is_sound to at_place e.0 its.to_is i its.place (named s from)

          fits_is : (r : Result) → if_naming_fits s to (naming s to (named s from)) r ≡ if_fits_in (free_block_count br) size (max size (16 * i + 16)) r
          fits_is = R.fits_is t is_sound to at_place e.0 its.to_is i its.place (named s from)

          pub no_fit : (why : Report) → FitsIn (free_block_count br) size (max size (16 * i + 16)) (Err why) → DecidesLink t old new (Err why)
          unfolding unless
          no_fit why isnt = refuse why (isnt _ ∙ sym (fits_is _) ∙ (rw (there, ordinary, its.here, its.plain) at given))

          abbrev plan : Plan
          plan = record { from = d; file = f; to = e; place = i; gone = gone }

          pub accepted : (u : Unit {0}) → FitsIn (free_block_count br) size (max size (16 * i + 16)) (Ok u) → DecidesLink t old new (Ok plan)
          accepted u fits =
              let a : Accepted t old new plan =
              record {
                ok = is_sound;
                j = both.old-name.k;
                old-name = record { name = from; is = both.old-name.at.is; count = both.old-name.at.count };
                there = there;
                ordinary = ordinary;
                from_is = A.old_dir t old both.old-name.k x both.old-name.at d f at;
                file_is = A.stands_for t old both.old-name.k x both.old-name.at d f at;
                k = both.new-name.k;
                new-name = record { name = to; is = both.new-name.at.is; count = both.new-name.at.count };
                here = its.here;
                plain = its.plain;
                to_is = its.to_is;
                place = its.place;
                gone_is = its.gone_is;
                size = rw new-size fits.0;
                room = rw (new-size, R.dir-size t is_sound to at_place e.0 its.to_is i its.place, ← R.free_is t is_sound to at_place e.0 its.to_is i its.place) fits.1;
              } in
              planning (link_given t new) (Accepted t old new) (result_of (Call.Link old new) t) plan (means t old new plan a) a
