use Rattle.what_if.proofs.OneOutcome as here
use Rattle.what_if.proofs.laws.one_trial.Goals as goal

pub returns-clause-last : goal.returns-clause-last
returns-clause-last c = here.one_last c.one_answer.ensures

pub returns-clause-place : goal.returns-clause-place
returns-clause-place c = here.one_stop c.one_answer.ensures

pub returns-clause-either : goal.returns-clause-either
returns-clause-either c = here.one_or_other c.one_answer.ensures

pub returns-clause-rows : goal.returns-clause-rows
returns-clause-rows c = here.one_difference
