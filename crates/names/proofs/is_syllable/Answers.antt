use Rattle.std.proofs.Common.{sym, ◌∙◌, rules, tests}
use Rattle.std.proofs.lemmas.Iterator.{YieldsList-from_slice}
use Rattle.std.proofs.lemmas.Iterator.Search.{all_from_yields_List}
use Rattle.names.specs.SyllableTests.{plain_byte, syllable_sized, syllable_unsized}
use Rattle.names.proofs.is_syllable.Goals as goal

pub returns-then-contains : goal.returns-then-contains
returns-then-contains c =
    all_from_yields_List plain_byte _ _ _ c.all.ensures.ran (YieldsList-from_slice c.args.bytes.now cc) (λ x b q k. search (rules, tests))
    ∙ sym (syllable_sized c.args.bytes.now (search rules) (search rules))

pub returns-else-contains : goal.returns-else-contains
returns-else-contains c = c.if-contains.false ∙ sym (syllable_unsized c.args.bytes.now (λ l h. search rules))
