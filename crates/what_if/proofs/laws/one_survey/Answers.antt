use Rattle.what_if.proofs.OneOutcome as here
use Rattle.what_if.proofs.laws.one_survey.Goals as goal

pub returns : goal.returns
returns c = here.one_survey c.one_answer.ensures c.one_list.ensures
