use Rattle.roundtrip_lists.proofs.Placed.{graphic_of, text_of_unit}
use Rattle.roundtrip_lists.proofs.drawing_laws.places.Goals as goal

pub returns : goal.returns
returns c = record { graphics = graphic_of; notes = text_of_unit }
