use Rattle.roundtrip_edited.proofs.Placed.{list_stands}
use Rattle.roundtrip_edited.proofs.unit_laws.places.Goals as goal

pub returns : goal.returns
returns c = list_stands
