use Rattle.std.proofs.Common.{◌≡◌, ◌++◌, ◌-◌, map, vec_len}
use Rattle.sexpr_read.specs.TreeViews.{trees_left}
use Rattle.pcb_read.specs.PartSlots.{tree_in}
use Rattle.pcb_read.proofs.aside.next_block.Given as goal

-- the block and what is left are what was left before
abbrev pub invariant-loop-left : goal.invariant-loop-left
invariant-loop-left l = map tree_in l.block.items ++ trees_left l.left ≡ trees_left l.initial.left

abbrev pub decreases-loop-left : goal.decreases-loop-left
decreases-loop-left l = l.most - vec_len l.block
