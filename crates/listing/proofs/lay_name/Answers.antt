-- A blank record leaves the buffer; of another its 14 bytes are copied.
use Rattle.listing.specs.RunLaws.{none_ends, none_laid, one-room, one_ends, one-laid}
use Rattle.listing.proofs.lay_name.Goals as goal

pub returns-then-zeros_at : goal.returns-then-zeros_at
returns-then-zeros_at c = record { value = search none_ends; buffer_after = search none_laid }

pub copy_run-requires : goal.copy_run-requires
copy_run-requires c = search one-room

pub returns : goal.returns
returns c = record { value = search one_ends; buffer_after = search one-laid }
