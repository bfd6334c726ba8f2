-- What is decided is done: a refusal leaves the tables, and else the plan's changes are made.
use Rattle.std.specs.Prelude.{ℕ, ◌≡◌, refl, List, [], Ok, Err}
use Rattle.std.proofs.lemmas.Result.{err_from_is_err_and}
use Rattle.meaning.specs.Tables.{Tables, tables, store_of, put_all}
use Rattle.meaning.specs.Run.{Call, Promise}
use Rattle.meaning.specs.Answers.{reported}
use Rattle.meaning.proofs.PromiseLaws.{kept_report, kept_done}
use Rattle.meaning.specs.declared.Report.{Report}
use Rattle.linking.specs.Link.{DecidesLink}
use Rattle.linking.specs.Act.{link_changes, Linkable}
use Rattle.linking.specs.ActLaws.{linkable}
use Rattle.linking.specs.declared.Plan.{Plan}
use Rattle.linking.proofs.link.Goals as goal

module _ (b br fr cr old new : List ℕ) where
  abbrev t : Tables
  t = tables b br fr cr

  refuses : (why : Report) → DecidesLink t old new (Err why) → Promise (Call.Link old new) t [] (record { answer = reported (Err why); buffer = []; tables = t })
  refuses why decided = kept_report (Call.Link old new) t [] refl why decided.means

  module _ (p : Plan) (decided : DecidesLink t old new (Ok p)) where
    able : Linkable b br fr new p
    able = linkable t old new p decided.fits

    links : (b' br' fr' : List ℕ) → ((channels : List ℕ) → tables b' br' fr' channels ≡ put_all (tables b br fr channels) (link_changes (store_of (tables b br fr channels)) new p))
        → Promise (Call.Link old new) t [] (record { answer = reported (Ok tt); buffer = []; tables = tables b' br' fr' cr })
    links b' br' fr' made =
        kept_done (Call.Link old new) t [] [] [] (link_changes (store_of t) new p) decided.means (tables b' br' fr' cr) (made cr)

pub returns-in_err-plan : goal.returns-in_err-plan
returns-in_err-plan c =
    let p = err_from_is_err_and c.from_residual.result c.from_residual.ensures.1 in
    rw (p.1, p.2) (refuses _ _ _ _ _ _ _ c.in_err-plan.ensures)

pub make_link-requires : goal.make_link-requires
make_link-requires c = able _ _ _ _ _ _ _ c.in_ok-plan.ensures

pub returns : goal.returns
returns c = links _ _ _ _ _ _ _ c.in_ok-plan.ensures _ _ _ c.make_link.ensures
