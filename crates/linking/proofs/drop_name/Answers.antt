-- The record made blank is the first change; a file that is let go is the second, on the tables that the first leaves.
use Rattle.std.specs.Prelude.{ℕ, ◌≡◌, List, ◌∷◌, Option}
use Rattle.std.proofs.Common.{sym, ap, ◌∙◌}
use Rattle.meaning.specs.Store.{file}
use Rattle.meaning.specs.Name.{blank_record}
use Rattle.meaning.specs.Tables.{tables, store_of, put, put_all}
use Rattle.meaning.specs.NameCalls.{rewritten}
use Rattle.meaning.specs.declared.FileNo.{FileNo}
use Rattle.linking.specs.Act.{last_goes, freed, drop_changes}
use Rattle.linking.specs.ThenGo.{may_go, then_go}
use Rattle.linking.specs.declared.Plan.{Plan}
use Rattle.linking.proofs.drop_name.Goals as goal

drops : (b br fr : List ℕ) (p : Plan) (i : ℕ) (b' br' fr' : List ℕ)
    → ((channels : List ℕ) → tables b' br' fr' channels
    ≡ put (tables b br fr channels) (file p.from.0 (rewritten (store_of (tables b br fr channels)) p.from.0 i blank_record)))
    → (x : Option FileNo) → x ≡ last_goes p → (br'' fr'' : List ℕ)
    → ((blocks channels : List ℕ) → tables blocks br'' fr'' channels ≡ put_all (tables blocks br' fr' channels) (freed x))
    → (channels : List ℕ) → tables b' br'' fr'' channels ≡ put_all (tables b br fr channels) (drop_changes (store_of (tables b br fr channels)) p i)
unfolding drop_changes
drops b br fr p i b' br' fr' taken x is br'' fr'' gone channels =
    then_go b br fr p.from.0 i blank_record b' br' fr' taken x br'' fr'' gone channels
    ∙ ap (λ (y : Option FileNo). put_all (tables b br fr channels)
    (file p.from.0 (rewritten (store_of (tables b br fr channels)) p.from.0 i blank_record) ∷ freed y)) is

pub let_go-requires : goal.let_go-requires
let_go-requires c =
    may_go _ _ _ _ _ _ _ _ _ c.take_name.ensures c.requires.taking _ (λ g e. c.requires.own g (sym c.last_goes.ensures ∙ e))

pub returns : goal.returns
returns c =
    drops _ _ _ _ _ _ _ _ c.take_name.ensures _ c.last_goes.ensures _ _ c.let_go.ensures
