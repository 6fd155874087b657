use Rattle.std.proofs.Common.{ap}
use Rattle.plain_types.specs.Reasons.{PlainReason}
use Rattle.drc_io.proofs.Writing.{Writes-text}
use Rattle.run_texts.specs.NamedTexts.{reason_text}
use Rattle.run_output.specs.Reports.{refused_trial}
use Rattle.run_output.proofs.lines.write_refused_trial.Goals as goal

pub returns : goal.returns
returns g c = Writes-text _ _ _ _ _ _ _ (ap (λ (why : PlainReason). refused_trial c.args.number (reason_text why)) c.told_of.ensures) c.write_refused_behind.ensures
