use Rattle.text.proofs.ReadLaws.{no_data, data_taken}
use Rattle.text.proofs.arguments.the_data.Goals as goal

pub returns-in_default : goal.returns-in_default
returns-in_default c call = rw c.in_default.is (no_data call)

pub returns : goal.returns
returns c = search data_taken
