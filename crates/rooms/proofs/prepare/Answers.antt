-- Each table of records is blanked, and file 1's record written.
use Prim.Native.Nat.{ℕ, ◌≤◌}
use mathlib.Core.Path.{◌≡◌, refl, sym, ap, ◌∙◌}
use mathlib.Core.List.{List, [], ◌∷◌}
use mathlib.Core.Bool.{Bool, true, false, not}
use native.Mathlib.Omega.{arith}
use borrow.Author.Tests.{not-true, not-false}
use lib.ListN.{length, replicate}
use borrow.Author.Rules.{rules}
use Rattle.records.specs.Numbers.{with_record}
use Rattle.std.specs.Prelude.{Ok, Err}
use Rattle.meaning.specs.Store.{prepared}
use Rattle.meaning.specs.Tables.{Tables, tables, put, put_all, file_count, file_record}
use Rattle.meaning.proofs.FileLaws.{length-zeros}
use Rattle.meaning.specs.Sound.{lengths_agree}
use Rattle.meaning.specs.Result.{unless}
use Rattle.meaning.specs.Run.{Call, meaning, accepts, result_of, Promise}
use Rattle.meaning.specs.Answers.{reported}
use Rattle.meaning.proofs.PromiseLaws.{kept_report, kept_done}
use Rattle.meaning.specs.declared.Report.TheVariants.{NotAStore}
use Rattle.layout.specs.Lengths.{lengths_agree_lem}
use Rattle.rooms.proofs.prepare.Goals as goal

module _ (b br fr cr : List ℕ) (ok : Bool) (is : ok ≡ lengths_agree (tables b br fr cr)) where
  abbrev t : Tables
  t = tables b br fr cr

  disagree : not ok ≡ true → Promise Call.Prepare t [] (record { answer = reported (Err NotAStore); buffer = []; tables = t })
  unfolding result_of accepts unless
  disagree e = kept_report Call.Prepare t [] refl NotAStore (rw (sym is ∙ not-true ok e))

  module _ (so : not ok ≡ false) (blank : List ℕ) (blanked : blank ≡ replicate (length fr) 0) where
    root_there : 1 ≤ file_count blank
    root_there = omega (arith, (lengths_agree_lem t (sym is ∙ not-false ok so)).some_files, ap length blanked, length-zeros (length fr))

    module _ (br' fr' cr' : List ℕ) (zero-blocks : br' ≡ replicate (length br) 0) (root : fr' ≡ with_record 8 blank 0 (file_record 2 0 0)) (zero-channels : cr' ≡ replicate (length cr) 0) where
      prepares : Promise Call.Prepare t [] (record { answer = reported (Ok tt); buffer = []; tables = tables b br' fr' cr' })
      unfolding result_of accepts meaning unless put_all put
      prepares =
          kept_done Call.Prepare t [] [] [] (prepared ∷ []) (rw (sym is ∙ not-false ok so)) (tables b br' fr' cr') (rw (zero-blocks, root, blanked, zero-channels))

pub returns-then-not-lengths_agree : goal.returns-then-not-lengths_agree
returns-then-not-lengths_agree c = search disagree

pub put_file_record-requires : goal.put_file_record-requires
put_file_record-requires c = (omega arith, search root_there)

pub returns : goal.returns
returns c = search prepares
