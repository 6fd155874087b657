use Rattle.std.proofs.Common.{◌≡◌}
use Rattle.std.specs.Prelude.{All}
use Rattle.sexpr_read.specs.Tree.{parts}
use Rattle.sexpr_read.specs.TreeViews.{tree_of, trees_left}
use Rattle.part_read.specs.Lists.{before}
use Rattle.part_read.specs.Placements.{IsReadRawPoint}
use Rattle.part_read.specs.Drawings.{raw_points_among}
use Rattle.part_read.proofs.drawings.raw_points_in.Given as goal

-- the raw points so far, and those of what is left, are all
abbrev pub invariant-loop-part : goal.invariant-loop-part
invariant-loop-part l = record {
  raw_points : before l.raw_points.items (raw_points_among l.curved (trees_left l.part-iterator)) ≡ raw_points_among l.curved (parts (tree_of l.list));
  within : All IsReadRawPoint l.raw_points.items;
}
