use Rattle.row_check.proofs.OneList as once
use Rattle.row_check.proofs.laws.one_list.Goals as goal

pub returns : goal.returns
returns c = once.one_list
