-- The counts of names decide the rule.
use Rattle.std.proofs.Common.{◌∙◌}
use Rattle.soundness.specs.Counts.{counts_zeros}
use Rattle.soundness.specs.NamesSeen.{all_named}
use Rattle.soundness.specs.SoundLaws.{tables_placed, tables-few}
use Rattle.soundness.proofs.names_sound.Goals as goal

pub count_all-requires : goal.count_all-requires
count_all-requires c = record { placed = tables_placed _ c.requires.sound_tables; directories_kept = c.requires.directories_kept; fresh = counts_zeros _ }

pub all_named-requires : goal.all_named-requires
all_named-requires c = (tables-few _ c.requires.sound_tables).0

pub returns : goal.returns
returns c = c.all_named.ensures ∙ all_named _ _ c.count_all.ensures (tables-few _ c.requires.sound_tables).0
