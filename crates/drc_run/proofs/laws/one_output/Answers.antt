use Rattle.drc_run.proofs.laws.one_output.Goals as goal

pub returns : goal.returns
returns c = c.both_laws.ensures.0
