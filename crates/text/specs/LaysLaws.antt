-- Laws of bytes laid into a buffer: one row after another, and what the buffer holds then.
use Rattle.std.specs.Prelude.{ℕ, ◌+◌, ◌≤◌, ◌≡◌, refl, List, [], ◌++◌, length, take, drop}
use Rattle.std.proofs.Common.{ap, ◌∙◌, arith, length-append, length-take-le, take_at}
use Rattle.std.proofs.lemmas.List.Edits.{sets-eq}
use Rattle.std.proofs.Math.Seq.{length-sets}
use Rattle.records.specs.RecordLaws.{sets-append}
use Rattle.text.specs.Lays.{Lays}

-- one row, and another right behind it
pub lays_both : (xs ys out between after : List ℕ) (at middle next : ℕ) → Lays out at xs between middle → Lays between middle ys after next
    → Lays out at (xs ++ ys) after next
lays_both xs ys out between after at middle next p q =
    record {
      lies = rw (q.lies, p.lies) (sets-append xs ys out at middle p.ends);
      ends = rw (length-append xs ys) (omega (arith, p.ends, q.ends));
      fits = q.fits;
    }

-- the same bytes under another name
pub lays_as : (xs ys out after : List ℕ) (at next : ℕ) → xs ≡ ys → Lays out at xs after next → Lays out at ys after next
lays_as xs ys out after at next e p = rw e at p

-- nothing
pub lays_none : (out : List ℕ) (at : ℕ) → at ≤ length out → Lays out at [] out at
lays_none out at h = record { lies = refl; ends = omega arith; fits = h }

-- what stands in the buffer afterwards
module _ (out : List ℕ) (at : ℕ) (bytes after : List ℕ) (next : ℕ) (l : Lays out at bytes after next) where
  pub laid-length : length after ≡ length out
  laid-length = ap length l.lies ∙ length-sets out at bytes

  room : at + length bytes ≤ length out
  room = omega (arith, l.ends, l.fits, laid-length)

  pub laid_out : after ≡ take at out ++ bytes ++ drop next out
  laid_out = l.lies ∙ sets-eq bytes out at room ∙ rw (← l.ends)

  -- all up to the next place: what was there before, and the bytes
  pub laid_up_to : take next after ≡ take at out ++ bytes
  laid_up_to =
      let r = room in
      let h : length (take at out) ≡ at = length-take-le at out (omega arith) in
      let e : length (take at out ++ bytes) ≡ next = length-append (take at out) bytes ∙ omega (arith, h, l.ends) in
      rw laid_out (take_at (take at out ++ bytes) (drop next out) next e)
