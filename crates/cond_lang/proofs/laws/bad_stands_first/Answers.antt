use Rattle.cond_lang.proofs.First.{stands_first}
use Rattle.cond_lang.proofs.laws.bad_stands_first.Goals as goal

pub returns : goal.returns
returns c = stands_first
