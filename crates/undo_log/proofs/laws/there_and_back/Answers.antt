use Rattle.undo_log.proofs.Answers as here
use Rattle.undo_log.proofs.laws.there_and_back.Goals as goal

pub returns-clause-edit : goal.returns-clause-edit
returns-clause-edit c = here.edit_undone

pub returns-clause-redo : goal.returns-clause-redo
returns-clause-redo c = here.undo_redone
