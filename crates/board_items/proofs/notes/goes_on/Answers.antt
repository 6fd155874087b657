use Rattle.std.proofs.Common.{sym}
use Rattle.board_items.proofs.NoteWalks.{goes_on, le_from}
use Rattle.board_items.proofs.notes.goes_on.Goals as goal

pub returns-then-in_order : goal.returns-then-in_order
returns-then-in_order c = λ rise t. goes_on c.args.units.now c.in-Some.last.now c.args.unit (rise c.if-in_order.true) (sym c.in-Some.ensures.value) (le_from _ _ t)
