use Rattle.std.proofs.Common.{drop, map}
use Rattle.std.specs.List.{flat_map}
use Rattle.cond_lang.specs.Rules.{plain_rule}
use Rattle.rule_pick.specs.Reach.{distances_between}
use Rattle.rule_pick.specs.Raised.{IsRaisedSoFar}
use Rattle.rule_pick.proofs.asking.raised_by_rules.Given as goal

abbrev pub invariant-loop-rule : goal.invariant-loop-rule
invariant-loop-rule l = IsRaisedSoFar l.fn.n.nm (flat_map (distances_between l.between) (map plain_rule l.rules)) (flat_map (distances_between l.between) (map plain_rule (drop l.rule-index l.rules))) l.greatest.nm
