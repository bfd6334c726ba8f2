-- A blank record is sixteen zero bytes written at the record's place.
use Rattle.recording.specs.RecordingLaws.{writable_so, rewrites_so}
use Rattle.recording.proofs.take_name.Goals as goal

pub write_file-requires : goal.write_file-requires
write_file-requires c = writable_so _ _ _ _ _ _ c.requires.rewritable

pub returns : goal.returns
returns c =
    λ channels. rewrites_so _ _ _ _ _ _ c.requires.rewritable channels _ (c.write_file.ensures channels)
