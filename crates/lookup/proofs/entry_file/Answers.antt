-- The record lies in the block of its run.
use native.Mathlib.Omega.{arith}
use Rattle.lookup.specs.LookLaws.{entry-held, entry_inside, entry_is}
use Rattle.lookup.proofs.entry_file.Goals as goal

pub place_start-at-requires : goal.place_start-at-requires
place_start-at-requires c = search entry-held

pub overflow_add-at : goal.overflow_add-at
overflow_add-at c = let inside = entry_inside _ _ _ _ c.requires _ c.place_start-at.ensures in omega arith

pub record_file-requires : goal.record_file-requires
record_file-requires c = search entry_inside

pub returns : goal.returns
returns c = search entry_is
