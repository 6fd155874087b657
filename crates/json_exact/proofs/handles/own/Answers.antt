use Rattle.json_exact.proofs.TextCells.{texts-take}
use Rattle.json_exact.proofs.handles.own.Goals as goal

pub returns-clause-texts : goal.returns-clause-texts
returns-clause-texts c = λ text h. texts-take _ text c.args.cells.now h
