use Rattle.roundtrip_edited.proofs.Lists.{carries, without, as_long, list_carried, unit_grows}
use Rattle.roundtrip_edited.proofs.laws.lists.Goals as goal

pub returns : goal.returns
returns c = record { carries = carries; without = without; long = as_long; carried = list_carried; grows = unit_grows }
