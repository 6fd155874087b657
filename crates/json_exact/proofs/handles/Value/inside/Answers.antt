use Rattle.json_exact.proofs.TextCells.{texts-take, texts-drop}
use Rattle.json_exact.proofs.handles.Value.inside.Goals as goal

pub returns-clause-texts : goal.returns-clause-texts
returns-clause-texts c = texts-take _ c.args.self.text.now _ (texts-drop 1 c.args.self.text.now c.args.self.cells.now c.args.self.texts)
