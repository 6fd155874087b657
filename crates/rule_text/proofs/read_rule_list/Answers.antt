use Rattle.std.proofs.Common.{refl}
use Rattle.std.specs.Prelude.{Ok}
use Rattle.rule_text.specs.RuleValues.{plain_rules}
use Rattle.rule_text.proofs.Moved.{only_moved}
use Rattle.rule_text.proofs.read_rule_list.Goals as goal

pub returns-in-Ok-clause-only : goal.returns-in-Ok-clause-only
returns-in-Ok-clause-only c = λ answer says.
    let rules = plain_rules c.in-Ok.rules in
    c.one_list_reading.ensures c.args.text.now c.args.at answer (Ok rules) says (Ok rules, c.in-Ok.ensures.says, refl)

pub returns-in-Err-clause-only : goal.returns-in-Err-clause-only
returns-in-Err-clause-only c =
    only_moved c.args.text.now c.args.at c.in-Err.error c.moved.result c.moved.ensures c.in-Err.ensures.says (c.one_list_reading.ensures c.args.text.now c.args.at)
