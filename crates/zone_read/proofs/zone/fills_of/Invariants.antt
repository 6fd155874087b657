use Rattle.std.proofs.Common.{◌≡◌, length}
use Rattle.sexpr_read.specs.Tree.{parts}
use Rattle.sexpr_read.specs.TreeViews.{tree_of, trees_left}
use Rattle.part_read.specs.Lists.{before}
use Rattle.part_read.specs.Ready.{AreReady}
use Rattle.zone_read.specs.ZoneOf.{fills_after}
use Rattle.zone_read.proofs.zone.fills_of.Given as goal

-- the fills so far, and those of the parts that are left, are all; the board takes those so far
abbrev pub invariant-loop-part : goal.invariant-loop-part
invariant-loop-part l = record {
  fills :
      before l.fills.items (fills_after (length l.fills.items) l.owner.board.now l.owner.unit l.owner.net (tree_of l.node) (trees_left l.part-iterator))
      ≡ fills_after 0 l.owner.board.now l.owner.unit l.owner.net (tree_of l.node) (parts (tree_of l.node));
  ready : AreReady l.owner.board.now l.owner.unit l.fills.items;
}
