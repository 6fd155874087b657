use Rattle.net_groups.proofs.OneParts as parts
use Rattle.net_groups.proofs.laws.one_list_of_parts.Goals as goal

pub returns : goal.returns
returns c = parts.one_list_of_parts
