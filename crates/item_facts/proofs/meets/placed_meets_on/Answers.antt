use Rattle.std.proofs.Common.{List, IsTrue, ◌↔◌, subst, arith}
use Rattle.one_item.specs.declared.parts.Part.{Part}
use Rattle.one_item.specs.CopperPairs.{SomeMeet, on_layer}
use Rattle.item_facts.proofs.Placed.{without_copper, with_copper}
use Rattle.item_facts.proofs.meets.placed_meets_on.Goals as goal

pub returns-then-copper-eq0 : goal.returns-then-copper-eq0
returns-then-copper-eq0 c =
    subst (λ (ps : List Part). IsTrue c.hole_meets_on.result ↔ SomeMeet (on_layer c.args.layer ps) c.args.others.now) (without_copper c.args.copper.now c.args.hole.now (omega arith)) c.hole_meets_on.ensures

pub returns-else-copper-eq0 : goal.returns-else-copper-eq0
returns-else-copper-eq0 c =
    subst (λ (ps : List Part). IsTrue c.some_meet_on.result ↔ SomeMeet (on_layer c.args.layer ps) c.args.others.now) (with_copper c.args.copper.now c.args.hole.now (λ e. omega arith)) c.some_meet_on.ensures
