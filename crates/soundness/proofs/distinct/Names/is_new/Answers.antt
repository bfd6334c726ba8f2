use Rattle.std.proofs.Common.{rules, ◌≡◌, refl}
use Rattle.records.specs.Rows.{every}
use Rattle.soundness.specs.NewNames.{other}
use Rattle.soundness.specs.Rules.{new_at}
use Rattle.soundness.specs.Together.{held_or, asked_or}
use Rattle.soundness.proofs.distinct.Names.is_new.Goals as goal

compared : (c : goal.After-every) →
    c.every.result ≡ every c.args.i (other c.args.self.now.records.now.blocks.now c.args.self.now.records.now.starts.now c.args.i)
unfolding other
compared c = c.every.ensures (other c.args.self.now.records.now.blocks.now c.args.self.now.records.now.starts.now c.args.i) (λ j b h post. search rules)

pub returns-then-is_blank : goal.returns-then-is_blank
unfolding new_at
returns-then-is_blank c = held_or _ _ _ _ c.is_blank.ensures c.if-is_blank.true refl

pub returns-else-is_blank : goal.returns-else-is_blank
unfolding new_at other
returns-else-is_blank c = asked_or _ _ _ _ c.is_blank.ensures c.if-is_blank.false (compared c)
