-- The record is built, then written at its place.
use borrow.Author.Rules.{rules}
use Rattle.recording.specs.RecordingLaws.{short_last, record_built, writable_built, rewrites_built}
use Rattle.recording.proofs.give_name.Goals as goal

pub write_record-requires : goal.write_record-requires
write_record-requires c =
    let pre = c.requires.record_fits in
    record { at_in_bounds = search rules; syllable_fits = short_last _ pre.1 pre.2 _ c.last_syllable.ensures }

pub write_file-requires : goal.write_file-requires
write_file-requires c =
    writable_built _ _ _ _ _ _ _ (record_built _ c.requires.record_fits.1 c.requires.record_fits.2 _ _ _ c.last_syllable.ensures c.write_record.ensures) c.requires.rewritable

pub returns : goal.returns
returns c =
    λ channels. rewrites_built _ _ _ _ _ _ _ (record_built _ c.requires.record_fits.1 c.requires.record_fits.2 _ _ _ c.last_syllable.ensures c.write_record.ensures) c.requires.rewritable channels _ (c.write_file.ensures channels)
