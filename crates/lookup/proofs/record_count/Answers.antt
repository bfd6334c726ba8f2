-- A directory in use has a file record, and its length is read there.
use Rattle.lookup.specs.LookLaws.{directory_there, count-read}
use Rattle.lookup.proofs.record_count.Goals as goal

pub file_record-requires : goal.file_record-requires
file_record-requires c = directory_there _ _ c.requires

pub returns : goal.returns
returns c =
    let read = c.file_record in
    count-read _ _ _ (directory_there _ _ c.requires).0 read.ensures.length
