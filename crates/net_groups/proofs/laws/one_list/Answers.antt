use Rattle.net_groups.specs.StepChains.{Chain}
use Rattle.net_groups.specs.NetGroups.{HasCopper, Touch}
use Rattle.net_groups.proofs.Once.{classes_once}
use Rattle.net_groups.proofs.laws.one_list.Goals as goal

pub returns : goal.returns
returns c = λ items groups others. classes_once (HasCopper items) (Chain (Touch items)) groups others
