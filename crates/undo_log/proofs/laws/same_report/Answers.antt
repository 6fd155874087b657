use Rattle.undo_log.proofs.Reports as here
use Rattle.undo_log.proofs.laws.same_report.Goals as goal

pub returns : goal.returns
returns c = here.same_report c.one_list.ensures c.one_list_of_parts.ensures
