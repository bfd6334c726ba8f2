use Rattle.std.proofs.Common.{rules}
use Rattle.meaning.specs.Tables.{store_of}
use Rattle.meaning.specs.Sound.{channel_sound, channels_sound}
use Rattle.soundness.specs.Seen.{channels_of}
use Rattle.soundness.proofs.forms.channels_sound.Goals as goal

pub returns : goal.returns
unfolding channels_sound store_of
returns c =
    c.every.ensures (λ i. channel_sound (channels_of c.args.store.now) ((channels_of c.args.store.now).channel i)) (λ i b h post. search rules)
