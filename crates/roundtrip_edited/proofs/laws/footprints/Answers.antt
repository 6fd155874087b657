use Rattle.roundtrip_edited.proofs.Feet.{feet_carried, feet_stand}
use Rattle.roundtrip_edited.proofs.laws.footprints.Goals as goal

pub returns : goal.returns
returns c = record { carried = feet_carried; stand = feet_stand }
