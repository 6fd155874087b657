use Rattle.net_groups.proofs.Stretched.{AreStretchedTo}
use Rattle.net_groups.proofs.spreading.stretch_all.Given as goal

abbrev pub invariant-loop-item_box : goal.invariant-loop-item_box
invariant-loop-item_box l = AreStretchedTo l.stretch l.item_boxes l.item_box-index l.wide.items
