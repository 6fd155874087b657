use Rattle.row_check.proofs.WholeRows.{asked}
use Rattle.row_check.proofs.laws.enough_answer.Goals as goal

pub returns : goal.returns
returns c = λ checked index sound is changed tiles enough row two touched. asked checked index sound is changed tiles enough row two touched
