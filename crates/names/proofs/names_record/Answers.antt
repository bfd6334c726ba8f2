-- It starts otherwise, or a zero is looked for in it; or it starts with the row, and ends there or goes on.
use Rattle.std.proofs.Common.{◌<◌, length, sym, ◌∙◌, rules, eq-eqb, get_or-drop}
use Rattle.records.specs.Numbers.{one}
use Rattle.names.specs.RecordNames.{record_length, field_is, names_apart, names_zero, names_begun, names_full, names-end}
use Rattle.names.proofs.names_record.Goals.{then-not-starts_with-via-then-not-starts_with, then-not-starts_with-via-else-not-starts_with+then-contains}
use Rattle.names.proofs.names_record.Goals as goal

pub returns-then-not-starts_with : goal.returns-then-not-starts_with
returns-then-not-starts_with c =
    let size = record_length _ _ c.requires in
    elim c.then-not-starts_with.branch [
      | then-not-starts_with-via-then-not-starts_with w ↦
          sym (names_apart _ _ size (rw (field_is _ _ c.requires) at (sym c.starts_with.ensures.value ∙ w.if-not-starts_with.true)))
      | then-not-starts_with-via-else-not-starts_with+then-contains w ↦ sym (names_zero _ _ size (sym w.contains.ensures.value ∙ w.if-contains.true))
    ]

pub returns-then-n-eq-LONGEST_SYLLABLE : goal.returns-then-n-eq-LONGEST_SYLLABLE
returns-then-n-eq-LONGEST_SYLLABLE c =
    let size = record_length _ _ c.requires in
    let starts = rw (field_is _ _ c.requires) at (sym c.starts_with.ensures.value ∙ c.if-not-starts_with.false) in
    let full = c.if-n-eq-LONGEST_SYLLABLE.true in
    eq-eqb _ _ full ∙ sym (names_full _ _ size (names_begun _ _ size starts (sym c.contains.ensures.value ∙ c.if-contains.false)) full)

pub returns-else-n-eq-LONGEST_SYLLABLE : goal.returns-else-n-eq-LONGEST_SYLLABLE
unfolding one
returns-else-n-eq-LONGEST_SYLLABLE c =
    let short : length c.args.syllable.now < 14 = search rules in
    let size = record_length _ _ c.requires in
    let starts = rw (field_is _ _ c.requires) at (sym c.starts_with.ensures.value ∙ c.if-not-starts_with.false) in
    rw (field_is _ _ c.requires, get_or-drop) (sym (names-end _ _ size (names_begun _ _ size starts (sym c.contains.ensures.value ∙ c.if-contains.false)) short))
