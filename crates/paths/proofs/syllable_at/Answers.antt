-- The test that led to each answer picks it.
use Rattle.std.proofs.Common.{ap, Some, lt-ltb, le-ltb}
use Rattle.paths.proofs.syllable_at.Goals as goal

pub returns-then-at-name : goal.returns-then-at-name
returns-then-at-name c = rw (lt-ltb _ _ c.if-at-name.true) (ap (λ end. Some (c.args.at, end)) c.syllable_end.ensures)

pub returns : goal.returns
returns c = rw (le-ltb _ _ c.if-at-name.false)
