use Rattle.std.proofs.Common.{ℤ, List, map, subst}
use Rattle.std.specs.List.{flat_map}
use Rattle.cond_lang.specs.Rules.{plain_constraint}
use Rattle.rule_pick.specs.Reach.{asked_between}
use Rattle.rule_pick.specs.Raised.{IsRaised}
use Rattle.rule_pick.proofs.Raising.{at_start, at_item, past_items}
use Rattle.rule_pick.proofs.asking.raised_by_constraints.Goals as goal

pub loop-constraint-init : goal.loop-constraint-init
loop-constraint-init c = at_start c.args.n.nm (flat_map (asked_between c.args.between) (map plain_constraint c.args.constraints.now))

pub loop-constraint-preserved : goal.loop-constraint-preserved
loop-constraint-preserved c =
    at_item plain_constraint (asked_between c.args.between) c.args.n.nm (flat_map (asked_between c.args.between) (map plain_constraint c.args.constraints.now)) c.args.constraints.now c.loop-constraint.constraint-index c.loop-constraint.greatest.nm c.raised_if-greatest.result.nm
    c.constraint-item.result c.loop-constraint-test.true c.constraint-item.is c.loop-constraint.invariant
    (subst (λ (asked : List ℤ). IsRaised c.loop-constraint.greatest.nm asked c.raised_if-greatest.result.nm) c.asked_between.ensures c.raised_if-greatest.ensures)

pub returns : goal.returns
returns c =
    past_items plain_constraint (asked_between c.args.between) c.args.n.nm (flat_map (asked_between c.args.between) (map plain_constraint c.args.constraints.now)) c.args.constraints.now c.loop-constraint.constraint-index c.loop-constraint.greatest.nm c.loop-constraint-test.false c.loop-constraint.invariant
