-- Each return is a case of the definition: a slash alone, more behind it, too many bytes, none, or no slash in front.
use Rattle.std.proofs.Common.{sym, rules}
use Rattle.records.specs.Numbers.{one}
use Rattle.names.specs.FormLaws.{form_empty, form-first, form-root}
use Rattle.names.specs.LongNames.{form_long}
use Rattle.names.proofs.name_form.Goals as goal

pub count_syllables-requires : goal.count_syllables-requires
unfolding one
count_syllables-requires c = (search rules, search rules)

pub returns-in-47 : goal.returns-in-47
unfolding one
returns-in-47 c = sym (form-root _ (search rules) (search rules))

pub returns-in_default : goal.returns-in_default
returns-in_default c = sym (form_empty _ (search rules))

pub returns-in_default-2 : goal.returns-in_default-2
unfolding one
returns-in_default-2 c = sym (form-first _ (λ e. search rules))

pub returns-in_default-3 : goal.returns-in_default-3
returns-in_default-3 c = sym (form_long _ (search rules))

pub returns-in_default-4 : goal.returns-in_default-4
unfolding one
returns-in_default-4 c = sym (form-first _ (λ e. search rules))
