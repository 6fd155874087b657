use Rattle.roundtrip_footprints.proofs.Pads.{pad_carried, pad_stands}
use Rattle.roundtrip_footprints.proofs.pad_laws.pads.Goals as goal

pub returns : goal.returns
returns c = record { carried = λ d board other ground. pad_carried d board other ground.copper ground.names; stand = pad_stands }
