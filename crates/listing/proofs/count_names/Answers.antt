use Rattle.std.specs.Prelude.{not}
use Rattle.std.proofs.Common.{rules, ◌∙◌}
use Rattle.directories.specs.Find.{blank_at}
use Rattle.listing.specs.RunLaws.{name_test, names_passing}
use Rattle.listing.proofs.count_names.Goals as goal

pub returns : goal.returns
returns c =
    c.count_records.ensures (λ at. not (blank_at c.args.store.now.blocks.now at)) (λ at b inside post. name_test _ _ _ (search rules))
    ∙ names_passing _ _ _ _
