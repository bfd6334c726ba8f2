-- Each return is a case of what mkdir gives on a new name in a directory, by the tests that led there.
use Rattle.std.specs.Prelude.{ℕ, ◌+◌, ◌-◌, ◌*◌, ◌≤◌, max, ◌≡◌, refl, List, true, Option, Some, Result as Answers, Ok, Err, ok_or}
use Rattle.std.proofs.Common.{sym, ◌∙◌, arith}
use Rattle.std.proofs.lemmas.Result.{err_from_is_err_and}
use Rattle.meaning.specs.Store.{is_directory}
use Rattle.meaning.specs.Tables.{Tables, store_of, file_count, file_length, depth_at}
use Rattle.meaning.specs.NameCalls.{record_for}
use Rattle.meaning.specs.declared.Report.{Report}
use Rattle.meaning.specs.declared.Report.TheVariants.{NoFreeFids}
use Rattle.meaning.specs.declared.FileNo.{FileNo}
use Rattle.tables.specs.Searches.{file_with, file_found, free_block_count}
use Rattle.soundness.specs.Seen.{files_store}
use Rattle.lookup.specs.Filed.{filed}
use Rattle.lookup.specs.LookLaws as L
use Rattle.naming.specs.Located.{NewIn, Recorded}
use Rattle.naming.specs.At.{At, stands_at}
use Rattle.naming.specs.declared.Located.TheVariants.{New}
use Rattle.recording.specs.Fit.{FitsIn}
use Rattle.placing.specs.Free.{few-files, reports, finds}
use Rattle.placing.specs.NewName.{directory_there, new_place, its_place, few_there}
use Rattle.folders.specs.Make.{NewName, Made}
use Rattle.folders.specs.MakeLaws.{its_depth, shallow}
use Rattle.folders.specs.MakeCases.{no_file_lem, no_fit, makes}
use Rattle.folders.proofs.decide_new.Goals as goal

module _ (t : Tables) (bytes : List ℕ) (d : FileNo) (new : NewName t bytes d) where
  abbrev at : At t bytes new.k (New d)
  at = stands_at t.blocks t.block_records t.file_records t.channel_records bytes new.k new.spelled (New d) new.located

  is_so : is_directory (files_store t.file_records) d.0 ≡ true
  is_so = directory_there t bytes new.k new.spelled d new.located

  place_so : NewIn t.blocks t.block_records t.file_records bytes d.0
  place_so = new_place t bytes new.k new.spelled d new.located

  depth-few : (depth : ℕ) → depth ≡ depth_at t.file_records (d.0 - 1) → depth ≤ 7
  depth-few depth read = omega (arith, its_depth t bytes new.k (New d) at d refl depth read, shallow t bytes new.k (New d) at d refl)

  few_so : (i : ℕ) → Recorded (filed t.blocks t.block_records t.file_records) bytes i → (file_length t.file_records d.0 ≤ 32768) × (i ≤ 2048)
  few_so = few_there t bytes new.k new.spelled d new.located

  module _ (z : Option FileNo) (free : z ≡ file_found (file_count t.file_records) (file_with t.file_records 0)) (r : Answers FileNo Report) (is : r ≡ ok_or z NoFreeFids) where
    no_file_so : (why : Report) → r ≡ Err why → Made t bytes (Err why)
    no_file_so why e =
        let none = reports NoFreeFids z why (sym e ∙ is) in
        rw none.1 (no_file_lem t bytes new.k (New d) at new.few d refl z free none.0)

    module _ (f : FileNo) (some : r ≡ Ok f) (i : ℕ) (recorded : Recorded (filed t.blocks t.block_records t.file_records) bytes i) (fit : Answers (Unit {0}) Report)
        (fits : FitsIn (free_block_count t.block_records) (file_length t.file_records d.0) (max (file_length t.file_records d.0) (16 * i + 16)) fit) where
      found : z ≡ Some f
      found = finds NoFreeFids z f (sym some ∙ is)

      here : i ≡ record_for (store_of t) at.name
      here = its_place t bytes new.k new.spelled d new.located i recorded

      no_fit_so : (why : Report) → fit ≡ Err why → Made t bytes (Err why)
      no_fit_so = no_fit t bytes new.k (New d) at new.few d refl z free f found i here fit fits

      makes_so : fit ≡ Ok tt → (depth : ℕ) → depth ≡ depth_at t.file_records (d.0 - 1) → Made t bytes (Ok (d, i, f, depth + 1))
      makes_so = makes t bytes new.k (New d) at new.few d refl z free f found i here fit fits

pub find_file-requires : goal.find_file-requires
find_file-requires c = few-files _ c.requires.spelled.ok

pub returns-in_err-new : goal.returns-in_err-new
returns-in_err-new c =
    let p = err_from_is_err_and c.from_residual.result c.from_residual.ensures.1 in
    rw (p.1, p.2) (no_file_so _ _ _ c.requires _ c.find_file.ensures _ c.ok_or.ensures.value _ c.in_err-new.was)

pub new_record-i-requires : goal.new_record-i-requires
new_record-i-requires c = place_so _ _ _ c.requires

pub record_fits-requires : goal.record_fits-requires
record_fits-requires c =
    record { d_is_directory = is_so _ _ _ c.requires; length_in_bounds = few_so _ _ _ c.requires _ c.new_record-i.ensures }

pub returns-in_err-record_fits : goal.returns-in_err-record_fits
returns-in_err-record_fits c =
    let p = err_from_is_err_and c.from_residual-in_err-record_fits.result c.from_residual-in_err-record_fits.ensures.1 in
    rw (p.1, p.2)
    (no_fit_so _ _ _ c.requires _ c.find_file.ensures _ c.ok_or.ensures.value _ c.in_ok-new.was _ c.new_record-i.ensures _ c.record_fits.ensures _ c.in_err-record_fits.was)

pub file_record-depth-requires : goal.file_record-depth-requires
file_record-depth-requires c = L.directory_there _ _ (is_so _ _ _ c.requires)

pub overflow_add-result : goal.overflow_add-result
overflow_add-result c =
    let few = depth-few _ _ _ c.requires _ c.file_record-depth.ensures.depth in
    omega arith

pub returns : goal.returns
returns c =
    makes_so _ _ _ c.requires _ c.find_file.ensures _ c.ok_or.ensures.value _ c.in_ok-new.was _ c.new_record-i.ensures _ c.record_fits.ensures
    c.in_ok-record_fits.was _ c.file_record-depth.ensures.depth
