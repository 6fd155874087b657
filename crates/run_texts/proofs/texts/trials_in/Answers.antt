use Rattle.std.proofs.Common.{subst, ap, length, arith}
use Rattle.plain_types.specs.Reasons.{PlainReason}
use Rattle.run_texts.specs.declared.texts.Which.TheVariants.{Trials}
use Rattle.run_texts.specs.RunFindings.{IsStopOf}
use Rattle.run_texts.proofs.TooMany.{by_reader, by_number, few_enough}
use Rattle.run_texts.proofs.texts.trials_in.Goals as goal

pub returns-in-Err-clause-says : goal.returns-in-Err-clause-says
returns-in-Err-clause-says c = by_reader c.args.text.now c.in-Err.e c.refused.result c.in-Err.ensures.says c.refused.ensures

pub returns-in-Some-clause-says : goal.returns-in-Some-clause-says
returns-in-Some-clause-says c =
    let is = subst (λ (why : PlainReason). IsStopOf Trials why c.refused_for.result) c.new.ensures c.refused_for.ensures in
    by_number c.args.text.now c.in-Ok.commands.items c.deref.result.now c.deref.ensures.value c.in-Ok.ensures.says c.in-Some.at c.refused_for.result c.in-Some.ensures is

pub returns-clause-says : goal.returns-clause-says
returns-clause-says c = few_enough c.args.text.now c.in-Ok.commands.items c.deref.result.now c.deref.ensures.value c.in-Ok.ensures.says c.in-None.ensures

pub returns-clause-few : goal.returns-clause-few
returns-clause-few c = omega (arith, c.in-None.ensures, ap length c.deref.ensures.value)
