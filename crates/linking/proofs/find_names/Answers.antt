-- The old name is judged first, and the new one where that is well written; then both are located.
use Rattle.std.specs.Prelude.{ℕ, ◌≡◌, List, Option, Some, None, Err}
use Rattle.std.proofs.Common.{sym, ◌∙◌}
use Rattle.std.proofs.lemmas.Result.{err_from_is_err_and}
use Rattle.meaning.specs.Name.{syllables}
use Rattle.meaning.specs.Tables.{tables}
use Rattle.meaning.specs.Result.{unless, with_syllables, on_name}
use Rattle.meaning.specs.declared.Report.{Report}
use Rattle.meaning.specs.declared.Report.TheVariants.{BadName}
use Rattle.names.specs.FormLaws.{Counted, form-counted, form_none}
use Rattle.names.specs.Syllables.{form_of}
use Rattle.lookup.specs.Filed.{filed, Shelves}
use Rattle.naming.specs.Judged.{OnName, on_name_of, Spelled}
use Rattle.naming.specs.Located.{Locates}
use Rattle.naming.specs.At.{judged_shelves, stands_at}
use Rattle.naming.specs.declared.Located.{Located}
use Rattle.placing.specs.Free.{reports}
use Rattle.linking.specs.Names.{on_names, Here, Both, FindsNames}
use Rattle.linking.proofs.find_names.Goals as goal

module _ (b br fr cr old new : List ℕ) where
  old_refused : (why : Report) → OnName (tables b br fr cr) old (Err why) → FindsNames (tables b br fr cr) old new (Err why)
  unfolding on_names on_name_of
  old_refused why on rest = on (λ from. on_name new λ to. rest from to)

  module _ (j : ℕ) (s : Spelled (tables b br fr cr) old j) (form : Option ℕ) (formed : form ≡ form_of (syllables new)) where
    new_bad : form ≡ None → FindsNames (tables b br fr cr) old new (Err BadName)
    unfolding on_names unless with_syllables
    new_bad bad rest =
        let none_so = form_none (syllables new) (sym bad ∙ formed) in
        rw (s.ok, s.counted.is, none_so)

    old_shelves : Shelves b br fr
    old_shelves = judged_shelves b br fr cr old j s

    module _ (k : ℕ) (is : form ≡ Some k) where
      new_spelled : Spelled (tables b br fr cr) new k
      new_spelled = record { ok = s.ok; counted = form-counted (syllables new) k (sym is ∙ formed) }

      new-counted : Counted (syllables new) k
      new-counted = new_spelled.counted

      here : (bytes : List ℕ) (m : ℕ) → Spelled (tables b br fr cr) bytes m → (x : Located) → Locates (filed b br fr) bytes x → Here (tables b br fr cr) bytes x
      here bytes m spelled x l = record { k = m; counted = spelled.counted; located = l; at = stands_at b br fr cr bytes m spelled x l }

      found : (x : Located) → Locates (filed b br fr) old x → (y : Located) → Locates (filed b br fr) new y → Both (tables b br fr cr) old new x y
      found x lx y ly = record { old-name = here old j s x lx; new-name = here new k new_spelled y ly }

pub returns-in_err-j : goal.returns-in_err-j
returns-in_err-j c =
    let p = err_from_is_err_and c.from_residual.result c.from_residual.ensures.1 in
    rw (p.1, p.2) (old_refused _ _ _ _ _ c.args.new.now _ c.in_err-j.ensures)

pub returns-in_err-k : goal.returns-in_err-k
returns-in_err-k c =
    let p = err_from_is_err_and c.from_residual-in_err-k.result c.from_residual-in_err-k.ensures.1 in
    let bad = reports BadName _ _ c.in_err-k.ensures.value in
    rw (p.1, p.2, bad.1) (new_bad _ _ _ _ _ c.args.new.now _ c.in_ok-j.ensures _ c.name_form.ensures bad.0)

pub locate-from-requires-clause-shelves : goal.locate-from-requires-clause-shelves
locate-from-requires-clause-shelves c = old_shelves _ _ _ _ _ c.args.new.now _ c.in_ok-j.ensures _ c.name_form.ensures

pub locate-to-requires-clause-shelves : goal.locate-to-requires-clause-shelves
locate-to-requires-clause-shelves c = old_shelves _ _ _ _ _ c.args.new.now _ c.in_ok-j.ensures _ c.name_form.ensures

pub locate-to-requires-clause-k_counted : goal.locate-to-requires-clause-k_counted
locate-to-requires-clause-k_counted c = new-counted _ _ _ _ _ _ _ c.in_ok-j.ensures _ c.name_form.ensures _ c.in_ok-k.ensures.ok_part

pub returns : goal.returns
returns c = found _ _ _ _ _ _ _ c.in_ok-j.ensures _ c.name_form.ensures _ c.in_ok-k.ensures.ok_part _ c.locate-from.ensures _ c.locate-to.ensures
