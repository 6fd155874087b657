use Rattle.std.proofs.Common.{rules, ◌≡◌, subst, true, Option, IfSome}
use Rattle.pcb_read.specs.declared.drafts.Draft.{Draft}
use Rattle.pcb_read.specs.Drafts.{IsDraft}
use Rattle.pcb_read.specs.PartSlots.{tree_in}
use Rattle.pcb_read.proofs.Slotting.{slot_says}
use Rattle.pcb_read.proofs.aside.read_slot.Goals as goal

pub returns-clause-read : goal.returns-clause-read
returns-clause-read c =
    let slot = c.args.slot in
    let board = c.args.board.now in
    let drafted : IsDraft slot.copper (tree_in slot) c.in-Some.draft = subst (λ (found : Option Draft). IfSome found (IsDraft slot.copper (tree_in slot))) c.in-Some.is slot.says in
    let is : c.holds.result ≡ true = search rules in
    let held = c.holds.ensures is in
    slot_says (record { board = board; layered = c.args.layered.now }) c.next_unit-unit.result (tree_in slot) slot.copper c.in-Some.draft c.item_of-answer.result c.add_one.result c.add_one.new.board
    c.next_unit-unit.ensures drafted held.0 held.1 c.item_of-answer.ensures.read c.add_one.ensures.read
