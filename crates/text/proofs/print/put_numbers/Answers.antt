use Rattle.std.proofs.Common.{ℕ, ◌+◌, ◌*◌, ◌≤◌, refl, List, [], ◌∷◌, length, take, arith, rules}
use Rattle.text.specs.Line.{space}
use Rattle.text.specs.Print.{decimal, spaced}
use Rattle.text.specs.Lays.{Lays, LaysAtMost}
use Rattle.text.proofs.PrintLaws.{spaced-append, spaced-one, each_start, each_more}
use Rattle.text.proofs.print.put_numbers.Goals as goal

none_spaced : (out : List ℕ) (at : ℕ) (numbers : List ℕ) → at + 11 * length numbers ≤ length out → Lays out at (spaced (take 0 numbers)) out at
unfolding spaced
none_spaced out at numbers h = each_start spaced refl out at numbers (omega arith)

one_spaced : (n : ℕ) (out after : List ℕ) (at next : ℕ) → LaysAtMost 11 out at (space ∷ decimal n) after next → Lays out at (spaced (n ∷ [])) after next
one_spaced n out after at next l = rw (spaced-one n) l.lays

pub loop-n-init : goal.loop-n-init
loop-n-init c = record { size = refl; near = omega arith; lays = search none_spaced }

pub loop-n-preserved : goal.loop-n-preserved
loop-n-preserved c =
    record {
      size = search rules;
      near = omega (arith, c.put_number-next.ensures.near);
      lays = each_more spaced spaced-append _ _ _ _ _ _ c.loop-n.invariant.lays c.loop-n-test.true _ _ (one_spaced _ _ _ _ _ c.put_number-next.ensures);
    }
