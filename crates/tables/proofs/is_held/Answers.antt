-- A channel holds file f exactly where some channel is counted.
use mathlib.Core.Path.{ap}
use lib.Dec.{ltb}
use Rattle.tables.proofs.is_held.Goals as goal

pub returns : goal.returns
returns c = ap (ltb 0) c.count_channels.ensures
