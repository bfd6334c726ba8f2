-- The call keeps its promise, and its answer is told.
use Rattle.filestore.proofs.TellsLaws.{kept_told}
use Rattle.filestore.specs.Rows.{told_alone}
use Rattle.filestore.proofs.filestore_link.Goals as goal

pub returns : goal.returns
returns c = search (kept_told, told_alone)
