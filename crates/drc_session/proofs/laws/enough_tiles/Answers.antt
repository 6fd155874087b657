use Rattle.drc_session.proofs.Enough as here
use Rattle.drc_session.proofs.laws.enough_tiles.Goals as goal

pub returns : goal.returns
returns c = λ checked index of changed was_boxes is_boxes are. here.enough_tiles checked index of changed was_boxes is_boxes are
