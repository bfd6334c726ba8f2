-- The record given is the first change; a file that is let go is the second, on the tables that the first leaves.
use Rattle.std.specs.Prelude.{ℕ, ◌≡◌, List, ◌∷◌, Option}
use Rattle.std.proofs.Common.{sym, ap, ◌∙◌}
use Rattle.meaning.specs.Store.{file}
use Rattle.meaning.specs.Tables.{tables, store_of, put, put_all}
use Rattle.meaning.specs.NameCalls.{rewritten}
use Rattle.meaning.specs.declared.FileNo.{FileNo}
use Rattle.recording.specs.Recording.{record_of}
use Rattle.linking.specs.Act.{goes, freed, link_changes}
use Rattle.linking.specs.ThenGo.{may_go, then_go}
use Rattle.linking.specs.declared.Plan.{Plan}
use Rattle.linking.proofs.make_link.Goals as goal

links : (b br fr new : List ℕ) (p : Plan) (b' br' fr' : List ℕ)
    → ((channels : List ℕ) → tables b' br' fr' channels
    ≡ put (tables b br fr channels) (file p.to.0 (rewritten (store_of (tables b br fr channels)) p.to.0 p.place (record_of p.file.0 new))))
    → (x : Option FileNo) → x ≡ goes p → (br'' fr'' : List ℕ)
    → ((blocks channels : List ℕ) → tables blocks br'' fr'' channels ≡ put_all (tables blocks br' fr' channels) (freed x))
    → (channels : List ℕ) → tables b' br'' fr'' channels ≡ put_all (tables b br fr channels) (link_changes (store_of (tables b br fr channels)) new p)
unfolding link_changes
links b br fr new p b' br' fr' given x is br'' fr'' gone channels =
    then_go b br fr p.to.0 p.place (record_of p.file.0 new) b' br' fr' given x br'' fr'' gone channels
    ∙ ap (λ (y : Option FileNo). put_all (tables b br fr channels)
    (file p.to.0 (rewritten (store_of (tables b br fr channels)) p.to.0 p.place (record_of p.file.0 new)) ∷ freed y)) is

pub let_go-requires : goal.let_go-requires
let_go-requires c =
    may_go _ _ _ _ _ _ _ _ _ c.give_name.ensures c.requires.giving _ (λ g e. c.requires.replaced g (sym c.replaced_goes.ensures ∙ e))

pub returns : goal.returns
returns c =
    links _ _ _ _ _ _ _ _ c.give_name.ensures _ c.replaced_goes.ensures _ _ c.let_go.ensures
