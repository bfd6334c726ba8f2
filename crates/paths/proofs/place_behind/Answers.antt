-- The test that led to each answer picks it.
use borrow.Author.Tests.{lt-ltb, le-ltb}
use Rattle.paths.proofs.place_behind.Goals as goal

pub returns-then-end-name : goal.returns-then-end-name
returns-then-end-name c = simp (lt-ltb _ _ c.if-end-name.true)

pub returns : goal.returns
returns c = simp (le-ltb _ _ c.if-end-name.false)
