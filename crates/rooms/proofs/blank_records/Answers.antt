use Prim.Native.Nat.{ℕ, ◌+◌, ◌≤◌, ◌<◌}
use mathlib.Core.Path.{◌≡◌, refl, sym, ◌∙◌}
use mathlib.Core.Logic.{◌≢◌, ⊎_elim}
use mathlib.Core.List.{List}
use native.Mathlib.Omega.{arith}
use lib.ListN.{length, set, replicate, length-set, length-replicate, get_or-replicate}
use lib.Seq.{ext_get_or, get_or-set_same, get_or-set_other}
use Rattle.records.specs.Tests.{same_or_not}
use Rattle.rooms.proofs.blank_records.Invariants.{Blank}
use borrow.Author.Rules.{rules}
use Rattle.rooms.proofs.blank_records.Goals as goal

blank_more : (l : List ℕ) (i : ℕ) → i < length l → Blank l i → Blank (set l i 0) (i + 1)
blank_more l i h blank j b =
    ⊎_elim
    (λ (e : j ≡ i). rw e (get_or-set_same l i 0 0 h))
    (λ (d : j ≢ i). get_or-set_other l i j 0 0 d ∙ blank j (omega arith))
    (same_or_not j i)

blank_all : (first l : List ℕ) (i : ℕ) → length l ≡ length first → length l ≤ i → Blank l i → l ≡ replicate (length first) 0
blank_all first l i size all blank =
    let n = length first in
    ext_get_or 0 l (replicate n 0) (size ∙ sym (length-replicate n 0))
    (λ j (h : j < length l). blank j (omega arith) ∙ sym (get_or-replicate n j 0 0 (omega arith)))

pub loop-i-init : goal.loop-i-init
loop-i-init c = (refl, λ j (h : j < 0). absurd (omega arith))

pub loop-i-preserved : goal.loop-i-preserved
loop-i-preserved c =
    (simp length-set c.loop-i.invariant.0, blank_more _ _ (omega (arith, c.loop-i.invariant.0, c.loop-i-test.true)) c.loop-i.invariant.1)

pub returns : goal.returns
returns c =
    let done : length c.args.records.now ≤ c.loop-i.i = search rules in
    blank_all _ _ _ c.loop-i.invariant.0 (omega (arith, c.loop-i.invariant.0, done)) c.loop-i.invariant.1
