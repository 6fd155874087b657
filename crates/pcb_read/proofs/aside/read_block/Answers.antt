use Rattle.std.proofs.Common.{ap, map, List}
use Rattle.std.specs.Vec.Iter.{into_iter_items}
use Rattle.pcb_read.specs.declared.slot.Slot.{Slot}
use Rattle.pcb_read.specs.PartSlots.{tree_in, reading_of}
use Rattle.pcb_read.proofs.Slotting.{part_refused}
use Rattle.pcb_read.proofs.aside.read_block.Goals as goal

pub returns-in-Err-clause-says : goal.returns-in-Err-clause-says
returns-in-Err-clause-says c =
    part_refused (reading_of c.args.read.now) (reading_of c.loop-slot.read) (map tree_in c.args.block.now.items) (map tree_in (into_iter_items c.loop-slot.slot-iterator)) (tree_in c.in-Some.slot)
    (map tree_in (into_iter_items c.next.new.self)) c.in-Err.error c.loop-slot.invariant.says (ap (λ (slots : List Slot). map tree_in slots) c.in-Some.ensures.steps.0) c.in-Err.ensures.read
