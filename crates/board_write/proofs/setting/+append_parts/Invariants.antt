use Rattle.std.proofs.Common.{◌≡◌, ◌≤◌, ◌++◌}
use Rattle.sexpr_read.specs.Tree.{levels_in}
use Rattle.sexpr_read.specs.TreeViews.{trees_left}
use Rattle.board_write.specs.Settings.{grove, set_down, updated}
use Rattle.board_write.proofs.setting.+append_parts.Given as goal

abbrev pub decreases-append_parts : goal.decreases-append_parts
decreases-append_parts l = levels_in (grove (trees_left l.left.parts))

-- what was set down, and what is still to come, is all
abbrev pub invariant-loop-part : goal.invariant-loop-part
invariant-loop-part l = record {
  text : l.out.items ++ set_down l.setting l.from l.to l.is_first (updated l.moving (grove (trees_left l.part-iterator)))
      ≡ l.initial.out.items ++ set_down l.setting l.left.from l.to l.left.is_first (updated l.initial.moving (grove (trees_left l.left.parts)));
  less : levels_in (grove (trees_left l.part-iterator)) ≤ levels_in (grove (trees_left l.left.parts));
}
