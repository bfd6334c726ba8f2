-- A space, and the number.
use Rattle.text.proofs.PrintLaws.{behind-space}
use Rattle.text.proofs.print.put_number.Goals as goal

pub returns : goal.returns
returns c = search behind-space
