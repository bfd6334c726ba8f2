-- Move: what its decision stands for. It is refused exactly where link is.
use Rattle.std.specs.Prelude.{ℕ, ◌≡◌, refl, List, [], ◌++◌, Bool, true, false, not, Result as Answers, Ok, Err}
use Rattle.std.proofs.Common.{sym}
use Rattle.meaning.specs.Store.{after_all}
use Rattle.meaning.specs.Tables.{Tables, store_of}
use Rattle.meaning.specs.Sound.{sound}
use Rattle.meaning.specs.Result.{Result, refused, done, unless}
use Rattle.meaning.specs.NameCalls.{record_for, link, move}
use Rattle.meaning.specs.Run.{Call, result_of, meaning, accepts}
use Rattle.meaning.specs.Decisions.{Decides, refusal_given, plan_fits}
use Rattle.meaning.specs.declared.Report.{Report}
use Rattle.meaning.specs.declared.Report.TheVariants.{NotAStore}
use Rattle.lookup.specs.Filed.{sound_well}
use Rattle.keeping.proofs.Moves.{move_refused}
use Rattle.placing.specs.Free.{sized}
use Rattle.linking.specs.Act.{link_changes, drop_changes}
use Rattle.linking.specs.Link.{Accepted}
use Rattle.linking.specs.declared.Plan.{Plan}

-- link goes by the plan, and record i of its directory is the old name's
pub record Movable (t : Tables) (old new : List ℕ) (p : Plan) (i : ℕ) : Type 0 where
  pub accepted : Accepted t old new p
  pub taken : i ≡ record_for (store_of t) accepted.old-name.name

-- what move gives where it goes by the plan: the changes of link, and then those of taking the old name
abbrev pub move_given : Tables → List ℕ → Plan × ℕ → Result
move_given t new x =
    let linked = link_changes (store_of t) new x.0 in
    done [] [] (linked ++ drop_changes (after_all (store_of t) linked) x.0 x.1)

abbrev pub DecidesMove : Tables → List ℕ → List ℕ → Answers (Plan × ℕ) Report → Type 0
DecidesMove t old new d = Decides (move_given t new) (λ x. Movable t old new x.0 x.1) (result_of (Call.Move old new) t) d

module _ (t : Tables) (old new : List ℕ) (d : Answers (Plan × ℕ) Report) (decides : DecidesMove t old new d) where
  -- a refusal is link's
  pub refuses_move : (why : Report) → d ≡ Err why → refused why ≡ result_of (Call.Link old new) t
  unfolding result_of meaning accepts unless
  refuses_move why e = go (sound t) refl (refusal_given (move_given t new) _ _ d decides why e)
    where
      go : (b : Bool) → sound t ≡ b → refused why ≡ unless (not b) NotAStore (move old new (store_of t)) → refused why ≡ unless (not b) NotAStore (link old new (store_of t))
      go true ok is = sym (move_refused (store_of t) (sound_well t ok) (sized t ok) old new why (sym is))
      go false unsound is = is

  pub accepts-move : (p : Plan) (i : ℕ) → d ≡ Ok (p, i) → Movable t old new p i
  accepts-move p i e = plan_fits (move_given t new) _ _ d decides (p, i) e
