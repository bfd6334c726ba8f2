use Prim.Native.Nat.{ℕ, ◌+◌, ◌-◌, ◌≤◌, ◌<◌}
use mathlib.Core.Path.{◌≡◌, sym, ◌∙◌}
use mathlib.Core.List.{List}
use mathlib.Core.Bool.{Bool, true, false}
use native.Mathlib.Omega.{arith}
use borrow.Author.Tests.{lt-ltb}
use lib.ListN.{length}
use Rattle.records.specs.Rows.{every}
use Rattle.records.specs.Numbers.{one, zeros}
use Rattle.records.specs.LoopLaws.{every_start, every-step}
use Rattle.meaning.specs.Name.{slash, is_written}
use Rattle.names.specs.RecordNames.{record_from}
use Rattle.soundness.specs.RecordRules.{lettered, is_lettered, written-ended, written_full, written-slash}
use borrow.Author.Rules.{rules}
use Rattle.soundness.proofs.directory.is_written.Goals as goal

module _ (table : List ℕ) (at : ℕ) (fits : at + 16 ≤ length table) (i : ℕ) (within : i ≤ 14) (so_far : every i (lettered table at) ≡ true) where
  abbrev verdict : Bool
  verdict = is_written (record_from table at)

  module _ (h : i < 14) (b : ℕ) (b-is : b ≡ one table (at + 2 + i)) where
    no_name : b ≡ 0 → i ≡ 0 → false ≡ verdict
    no_name z e = sym (written-ended table at fits i within so_far h (sym b-is ∙ z) ∙ rw e)

    ended : b ≡ 0 → (i ≡ 0 → ⊥) → (rest : Bool) → rest ≡ zeros table (at + 2 + i) (14 - i) → rest ≡ verdict
    ended z d rest is = sym (written-ended table at fits i within so_far h (sym b-is ∙ z) ∙ rw (lt-ltb 0 i (omega arith), ← is))

    parted : b ≡ slash → false ≡ verdict
    parted s = sym (written-slash table at fits i within so_far h (sym b-is ∙ s))

    next : (b ≡ 0 → ⊥) → (b ≡ slash → ⊥) → every (i + 1) (lettered table at) ≡ true
    next z s = every-step (lettered table at) i so_far (is_lettered table at i b b-is z s)

  full : 14 ≤ i → true ≡ verdict
  full h = sym (written_full table at fits i within so_far h)

pub loop-i-init : goal.loop-i-init
loop-i-init c = (search rules, search every_start)

pub returns-then-i-eq0 : goal.returns-then-i-eq0
returns-then-i-eq0 c =
    no_name _ _ (search rules) _ (search rules) c.loop-i.invariant.1 (search rules) _ c.one_at-b.ensures c.if-b-eq0.true c.if-i-eq0.true

pub returns-then-b-eq0 : goal.returns-then-b-eq0
returns-then-b-eq0 c =
    ended _ _ (search rules) _ (search rules) c.loop-i.invariant.1 (search rules) _ c.one_at-b.ensures c.if-b-eq0.true c.if-i-eq0.false
    _ c.zeros_at.ensures

pub returns-then-b-eq47 : goal.returns-then-b-eq47
returns-then-b-eq47 c =
    parted _ _ (search rules) _ (search rules) c.loop-i.invariant.1 (search rules) _ c.one_at-b.ensures c.if-b-eq47.true

pub loop-i-preserved : goal.loop-i-preserved
loop-i-preserved c =
    (search rules, next _ _ (search rules) _ (search rules) c.loop-i.invariant.1 (search rules) _ c.one_at-b.ensures c.if-b-eq0.false c.if-b-eq47.false)

pub returns : goal.returns
returns c = full _ _ (search rules) _ (search rules) c.loop-i.invariant.1 (search rules)
