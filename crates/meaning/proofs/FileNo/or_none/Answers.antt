use Rattle.std.specs.Prelude.{refl}
use Rattle.std.proofs.Common.{rules}
use Rattle.meaning.specs.Types.{some-numbered, none-numbered}
use Rattle.meaning.proofs.FileNo.or_none.Goals as goal

pub returns-then-self-eq0 : goal.returns-then-self-eq0
returns-then-self-eq0 c = search (none-numbered, rules)

pub returns-else-self-eq0 : goal.returns-else-self-eq0
returns-else-self-eq0 c = some-numbered c.args.self c.args.self.0 refl (search rules)
