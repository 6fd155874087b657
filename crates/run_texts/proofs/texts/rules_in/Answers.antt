use Rattle.std.proofs.Common.{refl, subst, ◌≤◌, ℕ}
use Rattle.std.proofs.lemmas.List.{length-map}
use Rattle.cond_lang.specs.Rules.{plain_rule}
use Rattle.rule_text.specs.declared.error.RuleError.TheVariants.{OutOfMemory}
use Rattle.rule_text.specs.RuleReasons.{rules_reason}
use Rattle.rule_text.specs.RuleText.{RulesSays}
use Rattle.rule_text.specs.RuleValues.{plain_rules}
use Rattle.rule_text.proofs.FewRules.{few_in_file}
use Rattle.run_texts.specs.declared.texts.Which.TheVariants.{Rules}
use Rattle.run_texts.proofs.Refusals.{refuses_so, stops_so}
use Rattle.run_texts.proofs.texts.rules_in.Goals as goal

pub returns-in-Ok-clause-few : goal.returns-in-Ok-clause-few
returns-in-Ok-clause-few c =
    let few = few_in_file c.spans_in_order.ensures.forms c.args.text.now (plain_rules c.in-Ok.rules) c.requires c.in-Ok.ensures.says in
    subst (λ (n : ℕ). n ≤ 33554432) (length-map c.in-Ok.rules.rules plain_rule) few

pub returns-in-Err-clause-says : goal.returns-in-Err-clause-says
returns-in-Err-clause-says c =
    let bytes = c.args.text.now in
    let e = c.in-Err.e in
    stops_so Rules bytes (rules_reason e) c.refused.result c.refused.ensures (λ r same. refuses_so rules_reason OutOfMemory refl (RulesSays bytes) e r c.in-Err.ensures.says same)
