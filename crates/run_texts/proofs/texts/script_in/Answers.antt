use Rattle.std.proofs.Common.{◌≤◌, ℕ, map, refl, subst}
use Rattle.std.proofs.lemmas.List.{length-map}
use Rattle.edit_script.specs.declared.error.ScriptError.TheVariants.{OutOfMemory}
use Rattle.edit_script.specs.Commands.{plain_command}
use Rattle.edit_script.specs.ScriptReasons.{script_reason}
use Rattle.edit_script.specs.ScriptText.{ScriptSays}
use Rattle.run_texts.specs.declared.texts.Which.TheVariants.{Script}
use Rattle.run_texts.proofs.FewCommands.{few_commands}
use Rattle.run_texts.proofs.Refusals.{refuses_so, stops_so}
use Rattle.run_texts.proofs.texts.script_in.Goals as goal

pub returns-in-Ok-clause-few : goal.returns-in-Ok-clause-few
returns-in-Ok-clause-few c =
    let commands = c.in-Ok.commands.items in
    let few = few_commands c.spans_in_order.ensures.forms c.accepted_forms.ensures.commands c.args.text.now (map plain_command commands) c.requires c.in-Ok.ensures.says in
    subst (λ (n : ℕ). n ≤ 33554432) (length-map commands plain_command) few

pub returns-in-Err-clause-says : goal.returns-in-Err-clause-says
returns-in-Err-clause-says c =
    let bytes = c.args.text.now in
    let e = c.in-Err.e in
    stops_so Script bytes (script_reason e) c.refused.result c.refused.ensures (λ r same. refuses_so script_reason OutOfMemory refl (ScriptSays bytes) e r c.in-Err.ensures.says same)
