use Rattle.std.proofs.Common.{◌≡◌}
use Rattle.sexpr_read.specs.Tree.{parts}
use Rattle.sexpr_read.specs.TreeViews.{tree_of, trees_left}
use Rattle.std.specs.Prelude.{All}
use Rattle.part_read.specs.Lists.{before}
use Rattle.part_read.specs.Figures.{IsDrawable}
use Rattle.pad_read.specs.CustomPads.{primitives_among}
use Rattle.pad_read.proofs.customs.primitives_in.Given as goal

-- the drawings so far, and those of the parts that are left, are all
abbrev pub invariant-loop-part : goal.invariant-loop-part
invariant-loop-part l = record {
  drawings : before l.drawings.items (primitives_among (tree_of l.pad) (trees_left l.part-iterator)) ≡ primitives_among (tree_of l.pad) (parts (tree_of l.list));
  drawable : All IsDrawable l.drawings.items;
}
