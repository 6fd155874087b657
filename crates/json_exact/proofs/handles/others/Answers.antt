use Rattle.json_exact.proofs.TextCells.{texts-take, texts-drop}
use Rattle.json_exact.proofs.handles.others.Goals as goal

pub returns-clause-texts : goal.returns-clause-texts
returns-clause-texts c = λ text h. texts-take _ text _ (texts-drop _ text c.args.cells.now h)
