use Rattle.footprint_read.proofs.OneAnswer as once
use Rattle.footprint_read.proofs.laws.one_answer.Goals as goal

pub returns : goal.returns
returns c = once.one_answer
