use Rattle.std.proofs.Common.{arith}
use Rattle.rule_text.specs.RuleValues.{plain_rules}
use Rattle.rule_text.proofs.FewRules.{few_in_list}
use Rattle.drc_state.proofs.planning.rules_in.Goals as goal

pub returns-in-Ok-clause-few : goal.returns-in-Ok-clause-few
returns-in-Ok-clause-few c =
    let few = few_in_list c.spans_in_order.ensures.forms c.args.text.now c.args.at (plain_rules c.in-Ok.rules) c.requires.text c.in-Ok.ensures.says in
    omega (arith, few)
