use Rattle.drc_session.proofs.EditEffect as here
use Rattle.drc_session.proofs.laws.boxes_of.Goals as goal

pub returns : goal.returns
returns c old new ids changed kept now edit was is before after =
    here.boxes_of old.board new old.classes old.rules ids changed kept now edit.edited edit.had edit.has edit.noted was is before after
