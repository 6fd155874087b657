use Rattle.roundtrip_lists.proofs.Graphics.{layer_role_translated, text_carried}
use Rattle.roundtrip_lists.proofs.drawing_laws.texts.Goals as goal

pub returns : goal.returns
returns c = record { layer_roles = layer_role_translated; notes = text_carried }
