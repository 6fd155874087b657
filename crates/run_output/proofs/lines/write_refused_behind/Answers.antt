use Rattle.drc_io.proofs.Writing.{Writes-text}
use Rattle.run_output.specs.Lines.{reason_told}
use Rattle.run_output.proofs.Reasons.{numbered_line}
use Rattle.run_output.proofs.lines.write_refused_behind.Goals as goal

pub returns : goal.returns
returns g c = Writes-text _ _ _ _ _ _ _ (numbered_line c.args.before.now c.args.number (reason_told c.args.told)) c.write_reason.ensures
