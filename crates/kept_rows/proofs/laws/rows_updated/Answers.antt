use Rattle.kept_rows.proofs.Updated as updated
use Rattle.kept_rows.proofs.laws.rows_updated.Goals as goal

pub returns : goal.returns
returns c old new index sound is changed tiles step enough rows after were updates_all =
    updated.rows_updated old new index sound is changed tiles step enough rows updates_all.singles updates_all.pairs after were updates_all.are_singles updates_all.are_pairs updates_all.put_together updates_all.in_order
