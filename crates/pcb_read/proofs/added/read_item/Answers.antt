use Rattle.std.proofs.Common.{refl, inr, Ok}
use Rattle.pcb_read.proofs.OneReading.{only_refused}
use Rattle.pcb_read.proofs.added.read_item.Goals as goal

pub returns-in-Ok-clause-only : goal.returns-in-Ok-clause-only
returns-in-Ok-clause-only c answer h =
    c.one_list.ensures c.args.board.now c.args.unit c.args.text.now c.args.at answer (Ok c.in-Ok.items.items) h (Ok c.in-Ok.items.items, c.in-Ok.ensures.items, refl)

pub returns-in-Err-clause-only : goal.returns-in-Err-clause-only
returns-in-Err-clause-only c answer h =
    only_refused c.args.board.now c.args.unit c.args.text.now c.args.at c.in-Err.error c.further.result answer
    (c.one_list.ensures c.args.board.now c.args.unit c.args.text.now c.args.at) (inr c.further.ensures) c.in-Err.ensures.items h
