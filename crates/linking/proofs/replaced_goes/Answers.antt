-- Where nothing goes with the new name, or the old name's own file would, nothing goes.
use Rattle.std.specs.Prelude.{◌≡◌, true, false, eqb, Some, None}
use Rattle.std.proofs.Common.{◌∙◌, sym}
use Rattle.meaning.specs.declared.FileNo.{FileNo}
use Rattle.linking.specs.Act.{goes}
use Rattle.linking.specs.declared.Plan.{Plan}
use Rattle.linking.proofs.replaced_goes.Goals as goal

nothing : (p : Plan) → p.gone ≡ None → None ≡ goes p
unfolding goes
nothing p e = rw e

module _ (p : Plan) (g : FileNo) (e : p.gone ≡ Some g) where
  same-file : eqb g.0 p.file.0 ≡ true → None ≡ goes p
  unfolding goes
  same-file is = rw (e, is)

  other-file : eqb g.0 p.file.0 ≡ false → Some g ≡ goes p
  unfolding goes
  other-file is = rw (e, is)

pub returns-in_err-g : goal.returns-in_err-g
returns-in_err-g c = c.from_residual.ensures ∙ nothing _ c.in_err-g.was

pub returns-then-eq : goal.returns-then-eq
returns-then-eq c = same-file _ _ c.in_ok-g.was (sym c.if-eq.ensures)

pub returns : goal.returns
returns c = other-file _ _ c.in_ok-g.was (sym c.if-eq.ensures)
