-- The rule here does not match, and none after it does.
use Rattle.std.proofs.Common.{◌-◌, map, arith}
use Rattle.std.specs.Option.{option_copied}
use Rattle.cond_lang.specs.Rules.{plain_rule}
use Rattle.rule_pick.specs.Deciding.{matches_rule}
use Rattle.rule_pick.proofs.Later.{at_place, none_from}
use Rattle.rule_pick.proofs.deciding.deciding.Goals as goal

pub loop-left-preserved : goal.loop-left-preserved
loop-left-preserved c = record {
  within = omega arith;
  none = none_from (matches_rule c.args.kind c.args.a.now (option_copied c.args.b) c.args.layer) (map plain_rule c.args.rules.now) (c.loop-left.left - 1) (plain_rule c.index-rules-left.result)
      (at_place c.args.rules.now (c.loop-left.left - 1) c.index-rules-left.result (omega arith) c.index-rules-left.is) c.in_default.ensures
      (λ later other l e. c.loop-left.invariant.none later other (omega arith) e);
}
