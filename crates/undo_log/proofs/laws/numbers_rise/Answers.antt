use Rattle.undo_log.proofs.Answers as here
use Rattle.undo_log.proofs.laws.numbers_rise.Goals as goal

pub returns : goal.returns
returns c = λ past next step h. let more = here.more_by_step past next step h in (more.ids, more.units)
