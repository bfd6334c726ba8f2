-- Each return is a case of what mkdir gives on a well-written name, by the tests that led there.
use Rattle.std.specs.Prelude.{ℕ, ◌≡◌, ◌≢◌, List, Option, Ok, Err}
use Rattle.std.proofs.Common.{rules, subst}
use Rattle.std.proofs.lemmas.Result.{err_from_is_err_and}
use Rattle.meaning.specs.Tables.{Tables, tables}
use Rattle.meaning.specs.declared.FileNo.{FileNo}
use Rattle.meaning.specs.declared.Report.TheVariants.{BadName, NoSuchName, NameInUse}
use Rattle.lookup.specs.Filed.{filed}
use Rattle.naming.specs.Judged.{Judged, OnName, spelled}
use Rattle.naming.specs.Located.{Locates}
use Rattle.naming.specs.At.{At, located_shelves, located_counted, located_at}
use Rattle.naming.specs.declared.Located.{Located}
use Rattle.naming.specs.declared.Located.TheVariants.{Nowhere, New, Old}
use Rattle.folders.specs.Make.{NewName, Made}
use Rattle.folders.specs.MakeCases.{refused_so, too_deep, is_in_use, no_directory}
use Rattle.folders.proofs.decide_mkdir.Goals as goal

module _ (b br fr cr bytes : List ℕ) (h : Judged) (on : OnName (tables b br fr cr) bytes h) (k : ℕ) (e : h ≡ Ok k) where
  abbrev t : Tables
  t = tables b br fr cr

  deep_so : k ≡ 8 → Made t bytes (Err BadName)
  deep_so = too_deep t bytes k (spelled t bytes h on k e)

  module _ (few : k ≢ 8) (x : Located) (l : Locates (filed b br fr) bytes x) where
    at : At t bytes k x
    at = located_at b br fr cr bytes h on k e x l

    nowhere_so : (p : Option FileNo) → x ≡ Nowhere p → Made t bytes (Err NoSuchName)
    nowhere_so = no_directory t bytes k x at few

    in_use_so : (d f : FileNo) → x ≡ Old d f → Made t bytes (Err NameInUse)
    in_use_so = is_in_use t bytes k x at few

    new_so : (d : FileNo) → x ≡ New d → NewName t bytes d
    new_so d new =
        record { k = k; few = few; spelled = spelled t bytes h on k e; located = subst (Locates (filed b br fr) bytes) new l }

pub returns-in_err-k : goal.returns-in_err-k
returns-in_err-k c =
    let p = err_from_is_err_and c.from_residual.result c.from_residual.ensures.1 in
    rw (p.1, p.2) (refused_so _ _ _ c.judge_name.ensures _ c.in_err-k.was)

pub returns-then-k-eq-MOST_SYLLABLES : goal.returns-then-k-eq-MOST_SYLLABLES
returns-then-k-eq-MOST_SYLLABLES c = deep_so _ _ _ _ _ _ c.judge_name.ensures _ c.in_ok-k.was (search rules)

pub locate-requires : goal.locate-requires
locate-requires c =
    record {
      shelves = located_shelves _ _ _ _ _ _ c.judge_name.ensures _ c.in_ok-k.was;
      k_counted = located_counted _ _ _ _ _ _ c.judge_name.ensures _ c.in_ok-k.was;
    }

pub decide_new-requires : goal.decide_new-requires
decide_new-requires c = new_so _ _ _ _ _ _ c.judge_name.ensures _ c.in_ok-k.was (search rules) _ c.locate.ensures _ c.in-New.is

pub returns-in-Nowhere : goal.returns-in-Nowhere
returns-in-Nowhere c = nowhere_so _ _ _ _ _ _ c.judge_name.ensures _ c.in_ok-k.was (search rules) _ c.locate.ensures _ c.in-Nowhere.is

pub returns-in-Old : goal.returns-in-Old
returns-in-Old c = in_use_so _ _ _ _ _ _ c.judge_name.ensures _ c.in_ok-k.was (search rules) _ c.locate.ensures _ _ c.in-Old.is
