use Rattle.soundness.specs.Counts.{counts_zeros}
use Rattle.soundness.proofs.counted.count_names.Goals as goal

pub count_all-requires : goal.count_all-requires
count_all-requires c = record { placed = c.requires.placed; directories_kept = c.requires.directories_kept; fresh = counts_zeros _ }
