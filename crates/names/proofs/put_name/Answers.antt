-- The bytes, and zeros behind them.
use Rattle.std.proofs.Common.{rules}
use Rattle.names.specs.RecordNames.{laid_padded}
use Rattle.names.proofs.put_name.Goals as goal

pub returns : goal.returns
returns c = rw c.copy_from_slice.ensures.after (laid_padded _ _ _ _ c.requires.at_in_bounds c.requires.name_fits (search rules))
