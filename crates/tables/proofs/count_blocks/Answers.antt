use Rattle.std.proofs.Common.{rules, arith, sym, ◌∙◌}
use Rattle.tables.specs.SearchLaws.{is_number, blocks_with-number}
use Rattle.tables.proofs.count_blocks.Goals as goal

pub returns : goal.returns
returns c =
    let known = c.type_inv.records in
    c.how_many.ensures (is_number c.args.records.now c.place_number-wanted.result) (λ i b h post. search rules)
    ∙ sym (blocks_with-number _ (λ j. omega (arith, known j)) _ _ _ (search rules) c.place_number-wanted.ensures)
