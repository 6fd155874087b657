use Rattle.std.proofs.Common.{refl}
use Rattle.run_words.specs.Calls.{nothing}
use Rattle.run_texts.specs.NamedTexts.{ReadFails}
use Rattle.run_output.specs.declared.status.Status.TheVariants.{Usage}
use Rattle.run_output.specs.Output.{usage, unclear, whole, IsOutputFor, IsBegunFor}
use Rattle.run_output.proofs.Written.{written}
use Rattle.run_output.proofs.status.usage.Goals as goal

pub returns-clause-ends : goal.returns-clause-ends
returns-clause-ends g c told before now =
    let line = c.args.line.now in
    let call = nothing line in
    let is = unclear line refl refl in
    written (IsOutputFor call told) (IsBegunFor call told) (ReadFails call told before now) _ _ _ _ (usage line) c.put_all.result Usage c.after.result is (whole (usage line) is refl) (λ w. w) c.put_all.ensures
    c.after.ensures
