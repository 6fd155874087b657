use Rattle.net_groups.proofs.AnchorsOf.{anchors_once}
use Rattle.net_groups.proofs.laws.one_list_of_anchors.Goals as goal

pub returns : goal.returns
returns c = anchors_once
