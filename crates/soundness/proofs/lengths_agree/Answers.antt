use Prim.Native.Nat.{ℕ, ◌*◌, ◌/◌, ◌%◌, ◌≤◌}
use mathlib.Core.Path.{◌≡◌, refl, sym, ◌∙◌}
use mathlib.Core.List.{List, [], ◌∷◌}
use mathlib.Core.Bool.{Bool, true, ◌&&◌}
use native.Mathlib.Omega.{arith}
use borrow.Author.Tests.{eq-eqb, eqb-true, leb-true}
use lib.ListN.{length}
use lib.Dec.{leb, eqb}
use Rattle.records.specs.Rows.{all_of}
use Rattle.records.specs.Tests.{both, and_both, both_ways, all_of-true, true-all_of}
use Rattle.meaning.specs.Tables.{tables}
use Rattle.meaning.specs.Sound.{between, lengths_agree}
use Rattle.soundness.specs.Rules.{counts_to}
use Rattle.soundness.specs.Together.{met, unmet}
use Rattle.soundness.proofs.lengths_agree.Goals as goal
use Rattle.soundness.proofs.lengths_agree.Goals.{Joined-records_agree-2, then-records_agree, else-records_agree, then-records_agree-2, else-records_agree-2}

whole_fours : (n : ℕ) → eqb n (4 * (n / 4)) ≡ eqb (n % 4) 0
whole_fours n =
    both_ways (eqb n (4 * (n / 4))) (eqb (n % 4) 0)
    (λ e. let h = eqb-true n (4 * (n / 4)) e in eq-eqb (n % 4) 0 (omega (arith, h)))
    (λ e. let h = eqb-true (n % 4) 0 e in eq-eqb n (4 * (n / 4)) (omega (arith, h)))

whole_eights : (n : ℕ) → eqb n (8 * (n / 8)) ≡ eqb (n % 8) 0
whole_eights n =
    both_ways (eqb n (8 * (n / 8))) (eqb (n % 8) 0)
    (λ e. let h = eqb-true n (8 * (n / 8)) e in eq-eqb (n % 8) 0 (omega (arith, h)))
    (λ e. let h = eqb-true (n % 8) 0 e in eq-eqb n (8 * (n / 8)) (omega (arith, h)))

-- whole records, from 1 up to a most
abbrev records-agree : List ℕ → ℕ → ℕ → Bool
records-agree records size most = counts_to (length records / size) most && eqb (length records % size) 0

module _ (records files channels : List ℕ) where
  abbrev records_ok : Bool
  records_ok = records-agree records 4 128 && records-agree files 8 64 && records-agree channels 8 16

  abbrev checks : List ℕ → List Bool
  checks blocks =
      between 1 128 (length records / 4)
      ∷ eqb (length blocks) (512 * (length records / 4))
      ∷ eqb (length records) (4 * (length records / 4))
      ∷ between 1 64 (length files / 8)
      ∷ eqb (length files) (8 * (length files / 8))
      ∷ between 1 16 (length channels / 8)
      ∷ eqb (length channels) (8 * (length channels / 8))
      ∷ []

  few : (flag : Bool) → flag ≡ records_ok → flag ≡ true → length records / 4 ≤ 128
  unfolding counts_to
  few flag is e =
      let (e, _) = both _ (records-agree channels 8 16) (sym is ∙ e) in
      let (e, _) = both _ (records-agree files 8 64) e in
      let (e, _) = both _ (eqb (length records % 4) 0) e in
      let (_, e) = both (leb 1 (length records / 4)) _ e in
      leb-true (length records / 4) 128 e

  all : (blocks : List ℕ) (value : Bool) → value ≡ records_ok && eqb (length blocks) (512 * (length records / 4)) → value ≡ lengths_agree (tables blocks records files channels)
  unfolding lengths_agree counts_to
  all blocks value v =
      v ∙ both_ways (records_ok && eqb (length blocks) (512 * (length records / 4))) (all_of (checks blocks))
      (λ e.
      let (e, blocks-ok) = both records_ok _ e in
      let (e, channels-ok) = both _ (records-agree channels 8 16) e in
      let (records-ok, files-ok) = both (records-agree records 4 128) _ e in
      let (few-records, whole-records) = both (between 1 128 (length records / 4)) _ records-ok in
      let (few-files, whole-files) = both (between 1 64 (length files / 8)) _ files-ok in
      let (few-channels, whole-channels) = both (between 1 16 (length channels / 8)) _ channels-ok in
      true-all_of (checks blocks) (
        few-records,
        (
          blocks-ok,
          (whole_fours (length records) ∙ whole-records, (few-files, (whole_eights (length files) ∙ whole-files, (few-channels, (whole_eights (length channels) ∙ whole-channels, tt))))),
        ),
      ))
      (λ e.
      let (few-records, (blocks-ok, (whole-records, (few-files, (whole-files, (few-channels, (whole-channels, _))))))) = all_of-true (checks blocks) e in
      and_both records_ok _
      (and_both _ _
      (and_both _ _ (and_both _ _ few-records (sym (whole_fours (length records)) ∙ whole-records)) (and_both _ _ few-files (sym (whole_eights (length files)) ∙ whole-files)))
      (and_both _ _ few-channels (sym (whole_eights (length channels)) ∙ whole-channels)))
      blocks-ok)

so_far : (c : Joined-records_agree-2) →
    c.if-records_agree-2.value ≡ records_ok c.args.store.now.block_records.now c.args.store.now.file_records.now c.args.store.now.channel_records.now
so_far c =
    let first : c.if-records_agree.value ≡ records-agree c.args.store.now.block_records.now 4 128 && records-agree c.args.store.now.file_records.now 8 64 =
    elim c.if-records_agree.branch [
      | then-records_agree w ↦ met _ _ _ _ c.records_agree.ensures w.if-records_agree.true (w.value-is ∙ w.records_agree-then-records_agree.ensures)
      | else-records_agree w ↦ unmet _ _ _ _ c.records_agree.ensures w.if-records_agree.false w.value-is
    ] in
    elim c.if-records_agree-2.branch [
      | then-records_agree-2 w ↦ met _ _ _ _ first w.if-records_agree-2.true (w.value-is ∙ w.records_agree-then-records_agree-2.ensures)
      | else-records_agree-2 w ↦ unmet _ _ _ _ first w.if-records_agree-2.false w.value-is
    ]

pub overflow_mul-result : goal.overflow_mul-result
overflow_mul-result c =
    let few = few _ _ _ _ (so_far (goal.at.overflow_mul-result c).Joined-records_agree-2) c.if-records_agree-3.true in
    omega arith

pub returns-then-records_agree-3 : goal.returns-then-records_agree-3
returns-then-records_agree-3 c =
    all _ _ _ _ _ (met _ _ _ _ (so_far (goal.at.returns-then-records_agree-3 c).Joined-records_agree-2) c.if-records_agree-3.true refl)

pub returns-else-records_agree-3 : goal.returns-else-records_agree-3
returns-else-records_agree-3 c =
    all _ _ _ _ _ (unmet _ _ _ _ (so_far (goal.at.returns-else-records_agree-3 c).Joined-records_agree-2) c.if-records_agree-3.false refl)
