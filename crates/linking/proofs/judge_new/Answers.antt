-- A new name's directory gets a record, one that stands for a file keeps its own; each return is a case of where the name stands.
use Rattle.linking.specs.NewLaws.{new-nowhere, can_add, added, new-directory, can_replace, can_count, replaced}
use Rattle.linking.proofs.judge_new.Goals as goal

pub new_record-requires : goal.new_record-requires
new_record-requires c = can_add _ _ _ _ _ _ c.requires _ c.in-New.is

pub own_record-requires : goal.own_record-requires
own_record-requires c = can_replace _ _ _ _ _ _ c.requires _ _ c.in-Old.is _ c.is_directory.ensures c.if-is_directory.false

pub gone_with-requires : goal.gone_with-requires
gone_with-requires c = can_count _ _ _ _ _ _ c.requires _ _ c.in-Old.is _ c.is_directory.ensures c.if-is_directory.false

pub returns-in-Nowhere : goal.returns-in-Nowhere
returns-in-Nowhere c = new-nowhere _ _ _ _ _ _ c.requires _ c.in-Nowhere.is

pub returns-in-New : goal.returns-in-New
returns-in-New c = added _ _ _ _ _ _ c.requires _ c.in-New.is _ c.new_record.ensures

pub returns-then-is_directory : goal.returns-then-is_directory
returns-then-is_directory c = new-directory _ _ _ _ _ _ c.requires _ _ c.in-Old.is _ c.is_directory.ensures c.if-is_directory.true

pub returns-else-is_directory : goal.returns-else-is_directory
returns-else-is_directory c =
    replaced _ _ _ _ _ _ c.requires _ _ c.in-Old.is _ c.is_directory.ensures c.if-is_directory.false _ c.own_record.ensures _ c.gone_with.ensures
