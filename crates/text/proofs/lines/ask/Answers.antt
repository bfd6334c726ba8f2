use Rattle.std.proofs.Common.{ℕ, ◌+◌, ◌<◌, ◌≡◌, arith, List, take, length, None, true, false}
use Rattle.std.specs.Prelude.{replicate, Option}
use Rattle.std.proofs.lemmas.List.{length-replicate}
use borrow.Author.Tests.{lt-leb}
use Rattle.meaning.specs.Run.{Call}
use Rattle.text.specs.Line.{asked, longest_line}
use Rattle.text.specs.Gathering.{Pends}
use Rattle.text.specs.GatheringLaws.{too_long, in_buffer}
use Rattle.text.specs.declared.lines.Pending.{Pending}
use Rattle.text.proofs.lines.ask.Goals as goal

asks_nothing : (bytes : List ℕ) → longest_line < length bytes → None ≡ asked bytes
unfolding asked
asks_nothing bytes h = rw (lt-leb (length bytes) longest_line h)

-- a line that is too long
long : List ℕ
long = replicate (longest_line + 1) 0

long_asks : None ≡ asked long
unfolding long
long_asks = asks_nothing (replicate (longest_line + 1) 0) (omega (arith, length-replicate {A = ℕ} (longest_line + 1) 0))

module _ (p : Pending) (bytes : List ℕ) (pends : Pends bytes p) where
  long_asks_nothing : p.long ≡ true → None ≡ asked bytes
  long_asks_nothing e = asks_nothing bytes (too_long bytes p pends e)

  never_past : p.long ≡ false → longest_line < p.len → None ≡ asked bytes
  never_past e h = let f = pends.fits e in absurd (omega arith)

  asks : p.long ≡ false → (r : Option Call) → r ≡ asked (take p.len p.bytes) → r ≡ asked bytes
  asks e r a = rw (in_buffer bytes p pends e) a

pub returns-then-line-clause-asked : goal.returns-then-line-clause-asked
returns-then-line-clause-asked c bytes h = long_asks_nothing _ bytes h c.if-line.true

pub returns-then-line-clause-some_line : goal.returns-then-line-clause-some_line
returns-then-line-clause-some_line c = (long, long_asks)

pub returns-then-line-gt-LONGEST_LINE-clause-asked : goal.returns-then-line-gt-LONGEST_LINE-clause-asked
returns-then-line-gt-LONGEST_LINE-clause-asked c bytes h = never_past _ bytes h c.if-line.false c.if-line-gt-LONGEST_LINE.true

pub returns-then-line-gt-LONGEST_LINE-clause-some_line : goal.returns-then-line-gt-LONGEST_LINE-clause-some_line
returns-then-line-gt-LONGEST_LINE-clause-some_line c = (long, long_asks)

pub returns-clause-asked : goal.returns-clause-asked
returns-clause-asked c bytes h = asks _ bytes h c.if-line.false _ c.parse.ensures
