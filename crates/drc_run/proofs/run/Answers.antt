use Rattle.drc_run.proofs.Promised.{promised_for}
use Rattle.drc_run.proofs.run.Goals as goal

pub returns-in-Ok-clause-promises : goal.returns-in-Ok-clause-promises
returns-in-Ok-clause-promises g c =
    promised_for c.one_output.ensures c.begun_is_prefix.ensures _ _ _ _ _ _ _ _ _ _ c.in-Ok.ensures.call c.carry_out-status.ensures.ends c.carry_out-status.ensures.fault
