use Rattle.std.proofs.Common.{rules, eqb}
use Rattle.records.specs.Rows.{lowest_below}
use Rattle.records.specs.Numbers.{one}
use Rattle.text.specs.Commands.{first_of}
use Rattle.text.proofs.search.find.Goals as goal

pub returns : goal.returns
unfolding lowest_below first_of one
returns c = c.lowest.ensures (λ i. eqb (one c.args.bytes.now i) c.args.b) (λ i b h post. search rules)
