use Rattle.std.proofs.Common.{rules, arith, ◌≡◌, ◌∙◌}
use Rattle.records.specs.Rows.{found_below, lowest_below}
use Rattle.meaning.specs.Tables.{channel_count, channel_file_at}
use Rattle.tables.specs.Searches.{is_to, channel_with}
use Rattle.tables.specs.Found.{found_index, no_index, channel_found_lem, channel_nowhere}
use Rattle.tables.proofs.find_channel.Goals.{After-lowest}
use Rattle.tables.proofs.find_channel.Goals as goal

found : (c : After-lowest) → c.lowest.result ≡ found_below (channel_count c.args.records.now) (channel_with c.args.records.now c.args.f.0)
unfolding channel_with channel_file_at lowest_below
found c = c.lowest.ensures (is_to c.args.records.now c.args.f.0) (λ i b h post. search rules)

pub returns-in_err-c : goal.returns-in_err-c
returns-in_err-c c = c.from_residual.ensures ∙ channel_nowhere _ _ (no_index _ _ _ (found (goal.at.returns-in_err-c c).After-lowest) c.in_err-c.was)

pub overflow_cast-result : goal.overflow_cast-result
overflow_cast-result c =
    let at = found_index _ _ _ (found (goal.at.overflow_cast-result c).After-lowest) _ c.in_ok-c.was in omega (arith, at.0, at.1)

pub returns : goal.returns
returns c =
    let at = found_index _ _ _ (found (goal.at.returns c).After-lowest) _ c.in_ok-c.was in channel_found_lem _ _ _ at.1 (omega (arith, at.0, at.1))
