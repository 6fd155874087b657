use Rattle.row_check.proofs.OneList as once
use Rattle.row_check.proofs.laws.rows_have_sources.Goals as goal

pub returns : goal.returns
returns c = once.all_have_sources
