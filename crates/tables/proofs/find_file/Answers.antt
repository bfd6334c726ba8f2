use Rattle.std.proofs.Common.{rules, arith, ◌≡◌, ◌∙◌}
use Rattle.records.specs.Rows.{found_below, lowest_below}
use Rattle.meaning.specs.Tables.{file_count, kind_at}
use Rattle.tables.specs.Searches.{is_of_kind, file_with}
use Rattle.tables.specs.Found.{found_index, no_index, file-found, file-nowhere}
use Rattle.tables.proofs.find_file.Goals.{After-lowest}
use Rattle.tables.proofs.find_file.Goals as goal

found : (c : After-lowest) → c.lowest.result ≡ found_below (file_count c.args.records.now) (file_with c.args.records.now c.args.kind)
unfolding file_with kind_at lowest_below
found c = c.lowest.ensures (is_of_kind c.args.records.now c.args.kind) (λ i b h post. search rules)

pub returns-in_err-r : goal.returns-in_err-r
returns-in_err-r c = c.from_residual.ensures ∙ file-nowhere _ _ (no_index _ _ _ (found (goal.at.returns-in_err-r c).After-lowest) c.in_err-r.was)

pub overflow_cast-result : goal.overflow_cast-result
overflow_cast-result c =
    let at = found_index _ _ _ (found (goal.at.overflow_cast-result c).After-lowest) _ c.in_ok-r.was in omega (arith, at.0, at.1)

pub overflow_add-result : goal.overflow_add-result
overflow_add-result c =
    let at = found_index _ _ _ (found (goal.at.overflow_add-result c).After-lowest) _ c.in_ok-r.was in omega (arith, at.0, at.1)

pub returns : goal.returns
returns c =
    let at = found_index _ _ _ (found (goal.at.returns c).After-lowest) _ c.in_ok-r.was in file-found _ _ _ at.1 (omega (arith, at.0, at.1))
