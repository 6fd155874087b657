use Rattle.std.proofs.Common.{refl}
use Rattle.edit_script.specs.declared.error.ScriptError.TheVariants.{OutOfMemory}
use Rattle.edit_script.specs.ScriptReasons.{script_reason}
use Rattle.edit_script.specs.ScriptText.{SaysSteps}
use Rattle.run_texts.specs.declared.texts.Which.TheVariants.{Steps}
use Rattle.run_texts.proofs.Refusals.{refuses_so, stops_so}
use Rattle.run_texts.proofs.texts.steps_in.Goals as goal

pub returns-in-Err-clause-says : goal.returns-in-Err-clause-says
returns-in-Err-clause-says c =
    let bytes = c.args.text.now in
    let e = c.in-Err.e in
    stops_so Steps bytes (script_reason e) c.refused.result c.refused.ensures (λ r same. refuses_so script_reason OutOfMemory refl (SaysSteps bytes) e r c.in-Err.ensures.says same)
