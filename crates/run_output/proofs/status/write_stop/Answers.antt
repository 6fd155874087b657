use Rattle.std.proofs.Common.{refl, subst, sym}
use Rattle.run_texts.specs.declared.texts.Stop.{Stop}
use Rattle.run_texts.specs.RunFindings.{why_of}
use Rattle.run_output.specs.declared.status.Status.TheVariants.{Refused}
use Rattle.run_output.specs.Output.{refusal}
use Rattle.run_output.specs.RefusalLines.{IsLineOf}
use Rattle.run_output.specs.RunEndings.{IsTextOfOne}
use Rattle.run_output.proofs.Written.{written, its_text}
use Rattle.run_output.proofs.status.write_stop.Goals as goal

pub returns-in-Refused-clause-ends : goal.returns-in-Refused-clause-ends
returns-in-Refused-clause-ends g c =
    let r = c.in-Refused.why in
    let line = refusal r.which (why_of r) in
    let is = subst (λ (x : Stop). IsLineOf x line) (sym c.in-Refused.is) refl in
    written (IsLineOf c.args.stop) (IsTextOfOne (IsLineOf c.args.stop)) _ _ _ _ _ line c.write_refusal.result Refused c.after.result is (its_text (IsLineOf c.args.stop) line is) (λ w. w) c.write_refusal.ensures
    c.after.ensures
