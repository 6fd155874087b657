use Rattle.roundtrip_footprints.proofs.Carried.{foot_carried}
use Rattle.roundtrip_footprints.proofs.Feet.{foot_stands}
use Rattle.roundtrip_footprints.proofs.footprint_laws.footprints.Goals as goal

pub returns : goal.returns
returns c = record { carried = λ d board other ground. foot_carried d board other ground.copper ground.names; stand = foot_stands }
