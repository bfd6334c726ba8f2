-- Move decides as link does; the old name's record is where its directory has it.
use Rattle.std.specs.Prelude.{ℕ, List, Ok, Err}
use Rattle.std.proofs.Common.{ap, sym, ◌∙◌, arith}
use Rattle.meaning.specs.Store.{Store, is_directory}
use Rattle.meaning.specs.Tables.{Tables, tables, store_of}
use Rattle.meaning.specs.NameCalls.{parent}
use Rattle.meaning.specs.Run.{Call, result_of}
use Rattle.meaning.specs.Decisions.{refusing, planning}
use Rattle.meaning.specs.declared.Report.{Report}
use Rattle.lookup.specs.Filed.{filed, shelves, directory-seen}
use Rattle.naming.specs.Located.{OldIn, Recorded}
use Rattle.naming.specs.LocateLaws.{one_name}
use Rattle.naming.specs.At.{named-seen, missing-seen}
use Rattle.naming.specs.InStore.{record_seen}
use Rattle.linking.specs.Link.{Accepted, DecidesLink}
use Rattle.linking.specs.MoveLaws.{from_more, standing_from}
use Rattle.linking.specs.Move.{Movable, move_given, DecidesMove}
use Rattle.linking.specs.MoveActs.{move-refusal, moves}
use Rattle.linking.specs.declared.Plan.{Plan}

module _ (b br fr cr old new : List ℕ) where
  abbrev t : Tables
  t = tables b br fr cr

  abbrev s : Store
  s = store_of t

  abbrev Fits : Plan × ℕ → Type 0
  Fits x = Movable t old new x.0 x.1

  pub no_move : (why : Report) → DecidesLink t old new (Err why) → DecidesMove t old new (Err why)
  no_move why decided = refusing (move_given t new) Fits (result_of (Call.Move old new) t) why (move-refusal t old new why decided.means)

  module _ (p : Plan) (decided : DecidesLink t old new (Ok p)) where
    a : Accepted t old new p
    a = decided.fits

    abbrev from : List (List ℕ)
    from = a.old-name.name

    -- its directory's records can be read
    pub own_place : OldIn b br fr old p.from.0
    unfolding parent
    own_place =
        record {
          shelf = shelves b br fr cr a.ok;
          is_directory_lem = sym (directory-seen b br fr cr p.from.0) ∙ ap (is_directory s) a.from_is ∙ (standing_from t old new p a).place.directory;
          k = a.j;
          counted = a.old-name;
          deep = omega (arith, from_more t old new p a, a.old-name.count);
          names = λ n is. rw (← one_name _ from n a.old-name.is is) (missing-seen b br fr cr from ∙ a.there, a.from_is ∙ sym (named-seen b br fr cr _));
        }

    pub movable : (i : ℕ) → Recorded (filed b br fr) old i → DecidesMove t old new (Ok (p, i))
    movable i recorded =
        let m : Movable t old new p i = record { accepted = a; taken = recorded from a.old-name.is ∙ record_seen b br fr cr from } in
        planning (move_given t new) Fits (result_of (Call.Move old new) t) (p, i) (moves t old new p i m) m
