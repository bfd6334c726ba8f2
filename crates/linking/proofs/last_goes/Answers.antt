-- Where nothing goes with the new name, or another file does, the old name's file stays.
use Rattle.std.specs.Prelude.{◌≡◌, true, false, eqb, Some, None}
use Rattle.std.proofs.Common.{◌∙◌, sym}
use borrow.Author.Tests.{not-true, not-false}
use Rattle.meaning.specs.declared.FileNo.{FileNo}
use Rattle.linking.specs.Act.{last_goes}
use Rattle.linking.specs.declared.Plan.{Plan}
use Rattle.linking.proofs.last_goes.Goals as goal

nothing : (p : Plan) → p.gone ≡ None → None ≡ last_goes p
unfolding last_goes
nothing p e = rw e

module _ (p : Plan) (g : FileNo) (e : p.gone ≡ Some g) where
  other-file : eqb g.0 p.file.0 ≡ false → None ≡ last_goes p
  unfolding last_goes
  other-file is = rw (e, is)

  same-file : eqb g.0 p.file.0 ≡ true → Some p.file ≡ last_goes p
  unfolding last_goes
  same-file is = rw (e, is)

pub returns-in_err-g : goal.returns-in_err-g
returns-in_err-g c = c.from_residual.ensures ∙ nothing _ c.in_err-g.was

pub returns-then-ne : goal.returns-then-ne
returns-then-ne c = other-file _ _ c.in_ok-g.was (not-true _ (sym c.if-ne.ensures))

pub returns : goal.returns
returns c = same-file _ _ c.in_ok-g.was (not-false _ (sym c.if-ne.ensures))
