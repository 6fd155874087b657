use Rattle.roundtrip_lists.proofs.Drawings.{drawing_translated}
use Rattle.roundtrip_lists.proofs.drawing_laws.drawings.Goals as goal

pub returns : goal.returns
returns c = drawing_translated
