use Rattle.soundness.specs.Counts.{counts_more, countable}
use Rattle.soundness.proofs.counted.add_directory.Goals as goal

pub count_directory-requires : goal.count_directory-requires
count_directory-requires c =
    let p = c.requires in
    let r = c.records_of.ensures in
    rw (r.blocks, r.count) (countable _ _ _ p.placed _ p.f_in_bounds _ p.counted _ r.starts p.is_directory p.directories_kept)

pub returns : goal.returns
returns c =
    let p = c.requires in
    let r = c.records_of.ensures in
    counts_more _ _ _ p.placed _ p.f_in_bounds _ p.counted _ r.starts p.is_directory _ (rw (r.blocks, r.count) at c.count_directory.ensures)
