use Rattle.std.proofs.Common.{List, map, subst}
use Rattle.std.specs.List.{flat_map}
use Rattle.cond_lang.specs.declared.constraint.Constraint.{Constraint}
use Rattle.cond_lang.specs.Rules.{plain_constraint, plain_rule}
use Rattle.rule_pick.specs.Reach.{asked_between, distances_between}
use Rattle.rule_pick.specs.Raised.{IsRaised}
use Rattle.rule_pick.proofs.Raising.{at_start, at_item, past_items}
use Rattle.rule_pick.proofs.asking.raised_by_rules.Goals as goal

pub loop-rule-init : goal.loop-rule-init
loop-rule-init c = at_start c.args.n.nm (flat_map (distances_between c.args.between) (map plain_rule c.args.rules.now))

pub loop-rule-preserved : goal.loop-rule-preserved
loop-rule-preserved c =
    at_item plain_rule (distances_between c.args.between) c.args.n.nm (flat_map (distances_between c.args.between) (map plain_rule c.args.rules.now)) c.args.rules.now c.loop-rule.rule-index c.loop-rule.greatest.nm c.raised_by_constraints-greatest.result.nm
    c.rule-item.result c.loop-rule-test.true c.rule-item.is c.loop-rule.invariant
    (subst (λ (list : List Constraint). IsRaised c.loop-rule.greatest.nm (flat_map (asked_between c.args.between) (map plain_constraint list)) c.raised_by_constraints-greatest.result.nm) c.as_slice.ensures c.raised_by_constraints-greatest.ensures)

pub returns : goal.returns
returns c =
    past_items plain_rule (distances_between c.args.between) c.args.n.nm (flat_map (distances_between c.args.between) (map plain_rule c.args.rules.now)) c.args.rules.now c.loop-rule.rule-index c.loop-rule.greatest.nm c.loop-rule-test.false c.loop-rule.invariant
