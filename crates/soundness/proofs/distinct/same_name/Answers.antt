use Prim.Native.Nat.{ℕ, ◌+◌, ◌≤◌, ◌<◌}
use mathlib.Core.Path.{◌≡◌, refl, ◌∙◌}
use mathlib.Core.List.{List}
use mathlib.Core.Bool.{Bool, ◌&&◌}
use native.Mathlib.Omega.{arith}
use lib.ListN.{length, get_or}
use lib.Dec.{eqb}
use borrow.Author.Tests.{eq-eqb, eqb-true}
use Rattle.records.specs.Numbers.{two, four}
use Rattle.records.specs.Tests.{both, and_both, both_ways}
use Rattle.meaning.specs.Name.{same, entry_in}
use Rattle.names.specs.RecordNames.{record_from}
use Rattle.soundness.specs.RecordRules.{Filled, same_words, words_same}
use Rattle.soundness.specs.Together.{met, unmet, equal_met, equal_unmet}
use Rattle.soundness.proofs.distinct.same_name.Goals as goal
use Rattle.soundness.proofs.distinct.same_name.Goals.{Joined-four_at-2, then-four_at, else-four_at, then-four_at-2, else-four_at-2}

module _ (table : List ℕ) (at bt : ℕ) where
  -- the three words, and with the half word at the end
  abbrev threes : Bool
  threes = eqb (four table (at + 2)) (four table (bt + 2)) && eqb (four table (at + 6)) (four table (bt + 6)) && eqb (four table (at + 10)) (four table (bt + 10))

  abbrev fours : Bool
  fours = threes && eqb (two table (at + 14)) (two table (bt + 14))

  in_words : (at + 16 ≤ length table) × (bt + 16 ≤ length table) → Filled table at → Filled table bt → ((j : ℕ) → get_or table j 0 < 256) →
      (value : Bool) → value ≡ fours → value ≡ same (entry_in (record_from table at)).name (entry_in (record_from table bt)).name
  in_words fits filled filled' bytes value v =
      v ∙ both_ways fours (same (entry_in (record_from table at)).name (entry_in (record_from table bt)).name)
      (λ e.
      let (e, last) = both threes _ e in
      let (e, third) = both _ (eqb (four table (at + 10)) (four table (bt + 10))) e in
      let (first, second) = both (eqb (four table (at + 2)) (four table (bt + 2))) _ e in
      words_same table at bt fits.0 fits.1 bytes (record { first = eqb-true _ _ first; second = eqb-true _ _ second; third = eqb-true _ _ third; last = eqb-true _ _ last }))
      (λ e.
      let words = same_words table at bt fits.0 fits.1 filled filled' e in
      and_both threes _
      (and_both _ _ (and_both _ _ (eq-eqb _ _ words.first) (eq-eqb _ _ words.second)) (eq-eqb _ _ words.third))
      (eq-eqb _ _ words.last))

so_far : (c : Joined-four_at-2) → c.if-four_at-2.value ≡ threes c.args.table.now c.args.at c.args.other
so_far c =
    let first : c.if-four_at.value ≡ eqb (four c.args.table.now (c.args.at + 2)) (four c.args.table.now (c.args.other + 2)) && eqb (four c.args.table.now (c.args.at + 6)) (four c.args.table.now (c.args.other + 6)) =
    rw (← c.four_at.ensures, ← c.four_at-2.ensures) (elim c.if-four_at.branch [
      | then-four_at w ↦ equal_met _ _ _ _ w.if-four_at.true (w.value-is ∙ rw (w.four_at-then-four_at.ensures, w.four_at-then-four_at-2.ensures))
      | else-four_at w ↦ equal_unmet _ _ _ _ w.if-four_at.false w.value-is
    ]) in
    elim c.if-four_at-2.branch [
      | then-four_at-2 w ↦ met _ _ _ _ first w.if-four_at-2.true (w.value-is ∙ rw (w.four_at-then-four_at-2-2.ensures, w.four_at-then-four_at-2-3.ensures))
      | else-four_at-2 w ↦ unmet _ _ _ _ first w.if-four_at-2.false w.value-is
    ]

pub returns-then-four_at-3 : goal.returns-then-four_at-3
returns-then-four_at-3 c =
    let p = c.requires in
    in_words _ _ _ p.records_in_bounds p.at_filled p.other_filled (λ j. omega (arith, c.type_inv.table j)) _
    (met _ _ _ _ (so_far (goal.at.returns-then-four_at-3 c).Joined-four_at-2) c.if-four_at-3.true (rw (c.two_at.ensures, c.two_at-then-four_at-3.ensures)))

pub returns-else-four_at-3 : goal.returns-else-four_at-3
returns-else-four_at-3 c =
    let p = c.requires in
    in_words _ _ _ p.records_in_bounds p.at_filled p.other_filled (λ j. omega (arith, c.type_inv.table j)) _
    (unmet _ _ _ _ (so_far (goal.at.returns-else-four_at-3 c).Joined-four_at-2) c.if-four_at-3.false refl)
