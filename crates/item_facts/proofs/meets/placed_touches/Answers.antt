use Rattle.std.proofs.Common.{List, IsTrue, ◌↔◌, subst, arith}
use Rattle.std.specs.List.{Any}
use Rattle.one_item.specs.declared.parts.Part.{Part}
use Rattle.one_item.specs.CopperPairs.{PartsMeet}
use Rattle.item_facts.proofs.Placed.{without_copper, with_copper}
use Rattle.item_facts.proofs.meets.placed_touches.Goals as goal

pub returns-then-copper-eq0 : goal.returns-then-copper-eq0
returns-then-copper-eq0 c =
    subst (λ (ps : List Part). IsTrue c.hole_touches.result ↔ Any (λ part. PartsMeet part c.args.area.now) ps) (without_copper c.args.copper.now c.args.hole.now (omega arith)) c.hole_touches.ensures

pub returns-else-copper-eq0 : goal.returns-else-copper-eq0
returns-else-copper-eq0 c =
    subst (λ (ps : List Part). IsTrue c.some_touches.result ↔ Any (λ part. PartsMeet part c.args.area.now) ps) (with_copper c.args.copper.now c.args.hole.now (λ e. omega arith)) c.some_touches.ensures
