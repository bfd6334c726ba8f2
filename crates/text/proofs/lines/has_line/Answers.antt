-- A line that has a byte is one; so many have come, or there are too many.
use Rattle.std.proofs.Common.{rules, ℕ, ◌≤◌, ◌≡◌, refl, List, [], ◌∷◌, true, false, ltb, length, arith, lt-ltb}
use Rattle.records.specs.Rows.{pick}
use Rattle.text.specs.Line.{longest_line}
use Rattle.text.specs.Program.{unended}
use Rattle.text.specs.Gathering.{Pends}
use Rattle.text.specs.GatheringLaws.{too_long, pending_length}
use Rattle.text.specs.declared.lines.Pending.{Pending}
use Rattle.text.proofs.lines.has_line.Goals as goal

last_line : (bytes : List ℕ) → unended bytes ≡ pick (ltb 0 (length bytes)) (bytes ∷ []) []
unfolding unended
last_line [] = refl
last_line (b ∷ bytes) = rw (lt-ltb 0 (length (b ∷ bytes)) (omega arith))

module _ (p : Pending) (bytes : List ℕ) (pends : Pends bytes p) where
  long_line : p.long ≡ true → unended bytes ≡ bytes ∷ []
  long_line e = rw (last_line bytes, lt-ltb 0 (length bytes) (omega (arith, too_long bytes p pends e)))

  some_line : p.long ≡ false → longest_line ≤ length p.bytes → unended bytes ≡ pick (ltb 0 p.len) (bytes ∷ []) []
  some_line e room = rw (last_line bytes, pending_length bytes p pends e room)

pub returns-then-line : goal.returns-then-line
returns-then-line c bytes h = rw c.if-line.true (long_line _ bytes h c.if-line.true)

pub returns-else-line : goal.returns-else-line
returns-else-line c bytes h = some_line _ bytes h c.if-line.false (search rules)
