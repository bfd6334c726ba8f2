use Rattle.std.proofs.Common.{◌∙◌}
use Rattle.names.specs.RecordNames.{entry-at}
use Rattle.soundness.specs.Slots.{slot}
use Rattle.soundness.specs.ChainLaws.{slot-filled}
use Rattle.soundness.proofs.distinct.Names.are_same.Goals as goal

pub same_name-requires : goal.same_name-requires
same_name-requires c =
    let p = c.args.self.now.padded in
    record {
      records_in_bounds = (c.start-at.ensures.inside, c.start-other.ensures.inside);
      at_filled = slot-filled _ _ _ p _ c.requires.0 _ c.start-at.ensures.at;
      other_filled = slot-filled _ _ _ p _ c.requires.1 _ c.start-other.ensures.at;
    }

pub returns : goal.returns
returns c =
    let blocks = c.args.self.now.records.now.blocks.now in
    let starts = c.args.self.now.records.now.starts.now in
    c.same_name.ensures
    ∙ rw (c.start-at.ensures.at, c.start-other.ensures.at, ← entry-at blocks (slot starts c.args.i), ← entry-at blocks (slot starts c.args.j))
