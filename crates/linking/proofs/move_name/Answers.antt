-- What is decided is done: a refusal leaves the tables, and else the changes of link are made, and then those of taking the old name.
use Rattle.std.specs.Prelude.{ℕ, ◌≡◌, refl, List, [], ◌++◌, Ok, Err}
use Rattle.std.proofs.lemmas.Result.{err_from_is_err_and}
use Rattle.meaning.specs.Store.{after_all}
use Rattle.meaning.specs.Tables.{Tables, tables, store_of, put_all}
use Rattle.meaning.specs.Run.{Call, Promise}
use Rattle.meaning.specs.Answers.{reported}
use Rattle.meaning.proofs.PromiseLaws.{kept_report, kept_done}
use Rattle.meaning.specs.declared.Report.{Report}
use Rattle.linking.specs.Act.{link_changes, drop_changes, Linkable, Droppable}
use Rattle.linking.specs.ActLaws.{linkable}
use Rattle.linking.specs.Move.{Movable, DecidesMove}
use Rattle.linking.specs.MoveActs.{droppable, moved}
use Rattle.linking.specs.declared.Plan.{Plan}
use Rattle.linking.proofs.move_name.Goals as goal

module _ (b br fr cr old new : List ℕ) where
  abbrev t : Tables
  t = tables b br fr cr

  refuses : (why : Report) → DecidesMove t old new (Err why) → Promise (Call.Move old new) t [] (record { answer = reported (Err why); buffer = []; tables = t })
  refuses why decided = kept_report (Call.Move old new) t [] refl why decided.means

  module _ (p : Plan) (i : ℕ) (decided : DecidesMove t old new (Ok (p, i))) where
    m : Movable t old new p i
    m = decided.fits

    able : Linkable b br fr new p
    able = linkable t old new p m.accepted

    module _ (b' br' fr' : List ℕ)
        (made : (channels : List ℕ) → tables b' br' fr' channels ≡ put_all (tables b br fr channels) (link_changes (store_of (tables b br fr channels)) new p)) where
      droppable_so : Droppable b' br' fr' p i
      droppable_so = droppable t old new p i m (tables b' br' fr' cr) (made cr)

      moved_so : (b'' br'' fr'' : List ℕ)
          → ((channels : List ℕ) → tables b'' br'' fr'' channels ≡ put_all (tables b' br' fr' channels) (drop_changes (store_of (tables b' br' fr' channels)) p i))
          → Promise (Call.Move old new) t [] (record { answer = reported (Ok tt); buffer = []; tables = tables b'' br'' fr'' cr })
      moved_so b'' br'' fr'' dropped =
          kept_done (Call.Move old new) t [] [] [] (link_changes (store_of t) new p ++ drop_changes (after_all (store_of t) (link_changes (store_of t) new p)) p i) decided.means
          (tables b'' br'' fr'' cr) (moved t old new p i m (tables b' br' fr' cr) (made cr) (tables b'' br'' fr'' cr) (dropped cr))

pub returns-in_err-plan : goal.returns-in_err-plan
returns-in_err-plan c =
    let p = err_from_is_err_and c.from_residual.result c.from_residual.ensures.1 in
    rw (p.1, p.2) (refuses _ _ _ _ _ _ _ c.in_err-plan.ensures)

pub make_link-requires : goal.make_link-requires
make_link-requires c = able _ _ _ _ _ _ _ _ c.in_ok-plan.ensures

pub drop_name-requires : goal.drop_name-requires
drop_name-requires c = droppable_so _ _ _ _ _ _ _ _ c.in_ok-plan.ensures _ _ _ c.make_link.ensures

pub returns : goal.returns
returns c = moved_so _ _ _ _ _ _ _ _ c.in_ok-plan.ensures _ _ _ c.make_link.ensures _ _ _ c.drop_name.ensures
