use Rattle.std.proofs.Common.{rules}
use Rattle.meaning.specs.Sound.{block_sound}
use Rattle.soundness.specs.Seen.{records_of}
use Rattle.soundness.proofs.forms.owners_sound.Goals as goal

pub returns : goal.returns
returns c = c.every.ensures (block_sound (records_of c.args.store.now)) (λ b t h post. search rules)
