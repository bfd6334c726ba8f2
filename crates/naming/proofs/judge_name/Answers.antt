-- Each return is a case of the refusals that come first, or of a well-written name.
use Rattle.std.specs.Prelude.{ℕ, ◌≡◌, List, true, not, Option, Some, None}
use Rattle.std.proofs.Common.{ap, sym, ◌∙◌}
use Rattle.std.specs.Option.{ok_or}
use borrow.Author.Tests.{not-true, not-false}
use Rattle.meaning.specs.Name.{syllables}
use Rattle.meaning.specs.Tables.{Tables}
use Rattle.meaning.specs.Sound.{sound}
use Rattle.meaning.specs.declared.Report.TheVariants.{BadName}
use Rattle.names.specs.Syllables.{form_of}
use Rattle.naming.specs.Judged.{OnName, on_unsound, on_bad, on_spelled}
use Rattle.naming.proofs.judge_name.Goals as goal

judged : (t : Tables) (name : List ℕ) → sound t ≡ true → (form : Option ℕ) → form ≡ form_of (syllables name) → OnName t name (ok_or form BadName)
judged t name ok None e = on_bad t name ok e
judged t name ok (Some k) e = on_spelled t name ok k e

pub returns-then-not-is_sound : goal.returns-then-not-is_sound
returns-then-not-is_sound c = on_unsound _ _ (sym c.is_sound.ensures ∙ not-true _ (ap not c.if-not-is_sound.true))

pub returns : goal.returns
returns c =
    let r = judged _ _ (sym c.is_sound.ensures ∙ not-false _ (ap not c.if-not-is_sound.false)) _ c.name_form.ensures in
    rw c.ok_or.ensures.value r
