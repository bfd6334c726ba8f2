use mathlib.Core.Path.{sym, ◌∙◌}
use Rattle.soundness.specs.DirectoryReads.{kind-read, size-read}
use Rattle.soundness.specs.Counts.{counts_none}
use Rattle.soundness.proofs.counted.add_names.Goals as goal

pub add_directory-requires : goal.add_directory-requires
add_directory-requires c =
    let p = c.requires in
    let read = c.file_record-read.ensures in
    record {
      placed = p.placed;
      f_in_bounds = p.f_in_bounds;
      size_is = sym (size-read _ _ _ p.placed _ p.f_in_bounds _ read);
      is_directory = kind-read _ _ _ p.placed _ p.f_in_bounds _ read ∙ sym c.is.ensures ∙ c.if-is.true;
      directories_kept = p.directories_kept;
      counted = p.counted;
    }

pub returns-else-is : goal.returns-else-is
returns-else-is c =
    let p = c.requires in
    counts_none _ _ _ p.placed _ p.f_in_bounds _ p.counted (kind-read _ _ _ p.placed _ p.f_in_bounds _ c.file_record-read.ensures ∙ sym c.is.ensures ∙ c.if-is.false)
