use Rattle.net_groups.proofs.Parts as parts
use Rattle.net_groups.proofs.laws.part_stays.Goals as goal

pub returns : goal.returns
returns c = parts.part_stays
