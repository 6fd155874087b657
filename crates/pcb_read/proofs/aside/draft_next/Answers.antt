use Rattle.std.proofs.Common.{subst, List, length, take, drop, ◌++◌}
use Rattle.sexpr_read.specs.TreeViews.{trees_left}
use Rattle.pcb_read.specs.declared.slot.Slot.{Slot}
use Rattle.pcb_read.specs.PartSlots.{AreSame}
use Rattle.pcb_read.proofs.Slotting.{whole, still_next}
use Rattle.pcb_read.proofs.aside.draft_next.Goals as goal

pub returns : goal.returns
returns g c =
    let block = c.in_ok-ahead.field-0 in
    let new = c.draft_all.new.block in
    let same = whole block.len block.items new (subst (λ (old : List Slot). AreSame old new) c.deref_mut.ensures.value c.draft_all.ensures) block.ok.0 in
    still_next block.items (take block.len (new ++ drop (length new) block.items)) (trees_left c.next_block.new.left) (trees_left c.args.ahead.now.left) same c.in_ok-ahead.ensures.block c.in_ok-ahead.ensures.last
