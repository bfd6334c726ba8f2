use Rattle.std.proofs.Common.{rules}
use Rattle.meaning.specs.Tables.{store_of}
use Rattle.meaning.specs.Sound.{file_sound, files_sound}
use Rattle.soundness.specs.Seen.{files_store}
use Rattle.soundness.proofs.forms.files_sound.Goals as goal

pub returns : goal.returns
unfolding files_sound store_of
returns c = c.every_file.ensures (λ f. file_sound f ((files_store c.args.file_records.now).file f)) (λ f b some within post. search rules)
