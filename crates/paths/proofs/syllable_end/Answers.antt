-- The first slash behind the place, or none.
use Rattle.std.proofs.Common.{rules, tests, eqb}
use Rattle.std.proofs.lemmas.Iterator.{YieldsList-from_slice}
use Rattle.std.proofs.lemmas.Iterator.Search.{position_from_yields_List}
use Rattle.meaning.specs.Name.{slash}
use Rattle.paths.specs.TakingLaws.{tail, slash_found, slash_none}
use Rattle.paths.proofs.syllable_end.Goals as goal

pub returns-in-Some : goal.returns-in-Some
returns-in-Some c =
    let found = position_from_yields_List (λ b. eqb b slash) _ _ _ c.in-Some.ensures.ran (YieldsList-from_slice (tail c.args.name.now c.args.at) (search rules)) (λ x b q k. search (rules, tests)) in
    slash_found _ _ c.requires _ found

pub returns-in-None : goal.returns-in-None
returns-in-None c =
    let none = position_from_yields_List (λ b. eqb b slash) _ _ _ c.in-None.ensures.ran (YieldsList-from_slice (tail c.args.name.now c.args.at) (search rules)) (λ x b q k. search (rules, tests)) in
    slash_none _ _ c.requires none
