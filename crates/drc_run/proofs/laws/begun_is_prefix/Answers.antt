use Rattle.drc_run.proofs.laws.begun_is_prefix.Goals as goal

pub returns : goal.returns
returns c = c.both_laws.ensures.1
