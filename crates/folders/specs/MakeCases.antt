-- Each case of what mkdir gives on a well-written name, by the tests that lead there.
use Rattle.std.specs.Prelude.{ℕ, ◌+◌, ◌-◌, ◌*◌, max, ◌≡◌, refl, ◌≢◌, List, [], ◌∷◌, false, not, length, eqb, Option, Some, None, Result as Answers, Ok, Err}
use Rattle.std.proofs.Common.{sym, ◌∙◌, subst, eq-eqb, ne_eqb, le-ltb}
use Rattle.meaning.specs.Name.{most_syllables}
use Rattle.meaning.specs.Store.{Store, file, directory, free_file}
use Rattle.meaning.specs.Tables.{Tables, store_of, file_count, file_length, depth_at}
use Rattle.meaning.specs.File.{needed, longest}
use Rattle.meaning.specs.NameCalls.{parent, record_for, naming, if_naming_fits, mkdir}
use Rattle.meaning.specs.Result.{Result, refused, done, unless, missing, nowhere, all_used}
use Rattle.meaning.specs.Run.{Call, result_of, meaning, accepts}
use Rattle.meaning.specs.Decisions.{refusing, planning}
use Rattle.meaning.specs.declared.Report.{Report}
use Rattle.meaning.specs.declared.Report.TheVariants.{BadName, NoSuchName, NameInUse, NoFreeFids}
use Rattle.meaning.specs.declared.FileNo.{FileNo}
use Rattle.tables.specs.Searches.{file_with, file_found, free_block_count}
use Rattle.naming.specs.Judged.{Judged, Spelled, OnName, on_name_of, refuses, gives}
use Rattle.naming.specs.At.{At, follows, is_missing, not_missing, is_nowhere, somewhere, there, new_dir}
use Rattle.naming.specs.declared.Located.{Located}
use Rattle.naming.specs.declared.Located.TheVariants.{Nowhere, New, Old}
use Rattle.recording.specs.Fit.{FitsIn, if_fits_in}
use Rattle.placing.specs.Free.{file_free, no_file_free, some_file_free}
use Rattle.placing.specs.NewName.{fits_is, same-naming}
use Rattle.folders.specs.Make.{Made, Fits, planned}
use Rattle.folders.specs.MakeLaws.{its_depth, can}

abbrev rest : Tables → List (List ℕ) → Result
rest t name =
    let s = store_of t in
    let new = free_file s in
    let dir = naming s name new in
    unless (eqb (length name) most_syllables) BadName
    (unless (nowhere s name) NoSuchName
    (unless (not (missing s name)) NameInUse
    (unless (all_used s) NoFreeFids
    (if_naming_fits s name dir
    (done [] [] (file (parent s name) dir ∷ file new (directory ((s.file (parent s name)).depth + 1) []) ∷ []))))))

module _ (t : Tables) (bytes : List ℕ) where
  abbrev call : Result
  call = result_of (Call.Mkdir bytes) t

  on_name_lem : on_name_of t bytes (rest t) ≡ call
  unfolding result_of meaning accepts mkdir on_name_of
  on_name_lem = refl

  refused_by : (why : Report) → refused why ≡ call → Made t bytes (Err why)
  refused_by = refusing (planned t bytes) (Fits t bytes) call

  pub refused_so : (h : Judged) → OnName t bytes h → (why : Report) → h ≡ Err why → Made t bytes (Err why)
  refused_so h on why e = refused_by why (refuses t bytes h on why e (rest t) ∙ on_name_lem)

  pub too_deep : (k : ℕ) → Spelled t bytes k → k ≡ 8 → Made t bytes (Err BadName)
  unfolding unless
  too_deep k spelled e =
      let given : rest t spelled.counted.name ≡ call = gives t bytes k spelled (rest t) ∙ on_name_lem in
      refused_by BadName (rw (eq-eqb (length spelled.counted.name) most_syllables (spelled.counted.count ∙ e)) at given)

  module _ (k : ℕ) (x : Located) (a : At t bytes k x) (few : k ≢ 8) where
    abbrev s : Store
    s = store_of t

    given : rest t a.name ≡ call
    given = follows t bytes k x a (rest t) ∙ on_name_lem

    not_deep : eqb (length a.name) most_syllables ≡ false
    not_deep = ne_eqb (length a.name) most_syllables (λ e. few (sym a.count ∙ e))

    pub no_directory : (p : Option FileNo) → x ≡ Nowhere p → Made t bytes (Err NoSuchName)
    unfolding unless
    no_directory p e = refused_by NoSuchName (rw (not_deep, (is_nowhere t bytes k x a p e).1) at given)

    pub is_in_use : (d f : FileNo) → x ≡ Old d f → Made t bytes (Err NameInUse)
    unfolding unless
    is_in_use d f e = refused_by NameInUse (rw (not_deep, there t bytes k x a d f e, not_missing t bytes k x a d f e) at given)

    module _ (d : FileNo) (new : x ≡ New d) (z : Option FileNo) (free : z ≡ file_found (file_count t.file_records) (file_with t.file_records 0)) where
      here : nowhere s a.name ≡ false
      here = somewhere t bytes k x a d new

      pub no_file_lem : z ≡ None → Made t bytes (Err NoFreeFids)
      unfolding unless
      no_file_lem e = refused_by NoFreeFids (rw (not_deep, here, is_missing t bytes k x a d new, no_file_free t z free e) at given)

      module _ (f : FileNo) (some : z ≡ Some f) (i : ℕ) (found : i ≡ record_for s a.name) where
        abbrev size : ℕ
        size = file_length t.file_records d.0

        abbrev end : ℕ
        end = max size (16 * i + 16)

        abbrev made : Result
        made = done [] [] (file (parent s a.name) (naming s a.name f.0) ∷ file f.0 (directory ((s.file (parent s a.name)).depth + 1) []) ∷ [])

        by_room : if_fits_in (free_block_count t.block_records) size end made ≡ call
        unfolding unless
        by_room =
            sym (fits_is t bytes k x a d new i found f.0 made)
            ∙ rw (not_deep, here, is_missing t bytes k x a d new, some_file_free t z free f some, file_free t z free f some) at given

        module _ (fit : Answers (Unit {0}) Report) (fits : FitsIn (free_block_count t.block_records) size end fit) where
          pub no_fit : (why : Report) → fit ≡ Err why → Made t bytes (Err why)
          no_fit why e =
              let refuses-so : (r : Result) → refused why ≡ if_fits_in (free_block_count t.block_records) size end r = subst (FitsIn (free_block_count t.block_records) size end) e fits in
              refused_by why (refuses-so made ∙ by_room)

          pub makes : fit ≡ Ok tt → (depth : ℕ) → depth ≡ depth_at t.file_records (d.0 - 1) → Made t bytes (Ok (d, i, f, depth + 1))
          unfolding if_fits_in unless
          makes e depth read =
              let room = subst (FitsIn (free_block_count t.block_records) size end) e fits in
              let fitting : if_fits_in (free_block_count t.block_records) size end made ≡ made =
              rw (le-ltb longest end room.0, le-ltb (free_block_count t.block_records) (needed end - needed size) room.1) in
              let same = same-naming t bytes k x a d new i found f.0 in
              let deeper = sym (its_depth t bytes k x a d new depth read) in
              let plan : planned t bytes (d, i, f, depth + 1) ≡ made =
              λ j. done [] [] (file (new_dir t bytes k x a d new j) (same j) ∷ file f.0 (directory (deeper j + 1) []) ∷ []) in
              let means = plan ∙ sym fitting ∙ by_room in
              planning (planned t bytes) (Fits t bytes) call (d, i, f, depth + 1) means (can t bytes k x a d new i found f.0 (depth + 1) means)
