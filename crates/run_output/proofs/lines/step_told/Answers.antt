use Rattle.std.proofs.Common.{◌∙◌, sym, ap}
use Rattle.run_output.specs.Reports.{step_told}
use Rattle.run_output.proofs.Reasons.{by_itself}
use Rattle.run_output.proofs.lines.step_told.Goals as goal

pub returns-in-Edit : goal.returns-in-Edit
returns-in-Edit c = c.told_of.ensures ∙ sym (ap step_told c.in-Edit.is)

pub returns-in_default : goal.returns-in_default
returns-in_default c = c.told_of-in_default.ensures ∙ by_itself c.args.why.now c.in_default.not-Edit
