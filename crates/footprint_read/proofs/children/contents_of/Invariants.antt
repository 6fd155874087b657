use Rattle.std.proofs.Common.{◌≡◌, All}
use Rattle.sexpr_read.specs.TreeViews.{tree_of, trees_left}
use Rattle.part_read.specs.Ready.{IsReady}
use Rattle.footprint_read.specs.FootprintOf.{items_of, children_give, contents_of}
use Rattle.footprint_read.specs.Appending.{onto}
use Rattle.footprint_read.proofs.children.contents_of.Given as goal

-- what was read so far, with the children that are left, is all
abbrev pub invariant-loop-part : goal.invariant-loop-part
invariant-loop-part l = record {
  read : onto l.contents (children_give l.board l.unit l.head (trees_left l.part-iterator)) ≡ contents_of l.board l.unit l.head (tree_of l.node);
  ready : All (IsReady l.board l.unit) (items_of l.contents.given);
}
