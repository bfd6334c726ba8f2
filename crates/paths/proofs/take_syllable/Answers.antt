-- What the reader gives is what is taken at the place, and what is left is behind it.
use Rattle.std.proofs.Common.{◌≡◌, ℕ, List, Option, refl}
use Rattle.std.specs.Borrow.{Bor}
use Rattle.paths.specs.Taking.{syllable_end, taken_at, end_taken, behind, reader_at, left_of}
use Rattle.paths.specs.TakingLaws.{end-taken}
use Rattle.paths.specs.declared.PathReader.{PathReader}
use Rattle.paths.proofs.take_syllable.Goals as goal

step : (s : Bor (List ℕ)) (n : ℕ) (r : PathReader) → r ≡ reader_at s n → (t : Option (ℕ × ℕ)) → t ≡ taken_at r.name.now r.at → (k : ℕ) → k ≡ end_taken t n →
    (p : PathReader) → p ≡ left_of r k → (k ≡ syllable_end s.now n) × (p.at ≡ behind s.now (syllable_end s.now n))
step s n r made t taken k ends p rest = rw (rest, ends, taken, made, end-taken s.now n) (refl, refl)

pub returns : goal.returns
returns c = step _ _ _ c.new-r.ensures _ c.next.ensures _ c.end_taken-end.ensures _ c.left.ensures
