use Rattle.drc_io.proofs.Writing.{Writes-text}
use Rattle.run_texts.specs.RunFindings.{reason_in}
use Rattle.run_output.specs.Lines.{reason_told}
use Rattle.run_output.proofs.Reasons.{refusal_line}
use Rattle.run_output.proofs.lines.write_refusal.Goals as goal

pub returns : goal.returns
returns g c =
    let text = refusal_line c.args.why.which c.word.result.now (reason_told c.told_in.result) (reason_in c.args.why) c.word.ensures c.told_in.ensures in
    Writes-text _ _ _ _ _ _ _ text c.write_reason.ensures
