use Rattle.std.proofs.Common.{drop, map}
use Rattle.std.specs.List.{flat_map}
use Rattle.cond_lang.specs.Rules.{plain_constraint}
use Rattle.rule_pick.specs.Reach.{asked_between}
use Rattle.rule_pick.specs.Raised.{IsRaisedSoFar}
use Rattle.rule_pick.proofs.asking.raised_by_constraints.Given as goal

abbrev pub invariant-loop-constraint : goal.invariant-loop-constraint
invariant-loop-constraint l = IsRaisedSoFar l.fn.n.nm (flat_map (asked_between l.between) (map plain_constraint l.constraints)) (flat_map (asked_between l.between) (map plain_constraint (drop l.constraint-index l.constraints))) l.greatest.nm
