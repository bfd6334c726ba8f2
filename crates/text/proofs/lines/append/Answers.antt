-- A line that is too long stays so, and so does one that becomes so; of any other all is kept, the new bytes at its end.
use Rattle.std.proofs.Common.{rules, ℕ, ◌+◌, ◌<◌, ◌≤◌, ◌≡◌, sym, refl, List, ◌++◌, true, false, length, length-append, arith}
use Rattle.text.specs.Line.{longest_line}
use Rattle.text.specs.Lays.{Lays}
use Rattle.text.specs.LaysLaws.{laid_up_to}
use Rattle.text.specs.Gathering.{Pends}
use Rattle.text.specs.GatheringLaws.{too_long, in_buffer, pending_length, still_long}
use Rattle.text.specs.declared.lines.Pending.{Pending}
use Rattle.text.proofs.lines.append.Goals as goal

module _ (p : Pending) (bytes before : List ℕ) (pends : Pends before p) where
  stays_long : p.long ≡ true → Pends (before ++ bytes) p
  stays_long e = let l = too_long before p pends e in still_long (before ++ bytes) p e (omega (arith, length-append before bytes))

  module _ (short : p.long ≡ false) (room : longest_line ≤ length p.bytes) where
    becomes_long : longest_line < p.len + length bytes → Pends (before ++ bytes) (record p { long = true })
    becomes_long h =
        let l = pending_length before p pends short room in
        still_long (before ++ bytes) (record p { long = true }) refl (omega (arith, length-append before bytes))

    grows : p.len + length bytes ≤ longest_line → (after : List ℕ) (end : ℕ) → Lays p.bytes p.len bytes after end
        → Pends (before ++ bytes) (record { bytes = after; len = end; long = p.long })
    grows h after end l =
        record {
          fits = λ e. omega (arith, l.ends);
          keeps = rw (short, in_buffer before p pends short) (sym (laid_up_to p.bytes p.len bytes after end l));
        }

pub returns-then-line-clause-appends : goal.returns-then-line-clause-appends
returns-then-line-clause-appends c before h = stays_long _ _ before h c.if-line.true

pub returns-then-too_long-clause-appends : goal.returns-then-too_long-clause-appends
returns-then-too_long-clause-appends c before h = becomes_long _ _ before h c.if-line.false (search rules) (omega arith)

pub returns-then-not-is_empty-clause-appends : goal.returns-then-not-is_empty-clause-appends
returns-then-not-is_empty-clause-appends c before h = grows _ _ before h c.if-line.false (search rules) (omega arith) _ _ c.put_bytes-line.ensures
