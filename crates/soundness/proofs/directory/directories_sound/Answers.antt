use Rattle.std.proofs.Common.{rules}
use Rattle.meaning.specs.Tables.{store_of}
use Rattle.soundness.specs.DirectoryRules.{directory_rule, directories_rule}
use Rattle.soundness.specs.Slots.{directories_of}
use Rattle.soundness.proofs.directory.directories_sound.Goals as goal

pub returns : goal.returns
unfolding directories_rule store_of
returns c = c.every_file.ensures (directory_rule (directories_of c.args.store.now)) (λ f b some within post. search rules)
