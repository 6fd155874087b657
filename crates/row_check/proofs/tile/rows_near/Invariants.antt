use Rattle.std.proofs.Common.{length}
use Rattle.pair_check.specs.CheckViews.{checked_by}
use Rattle.row_check.specs.Blocks.{AreBoxes}
use Rattle.row_check.proofs.TileWalk.{IsTestedTo}
use Rattle.row_check.proofs.tile.rows_near.Given as goal

abbrev pub invariant-entries : goal.invariant-entries
invariant-entries g l = record {
  tested : IsTestedTo (checked_by l.tested.view.now) l.at.index.now l.at.tile l.changed l.initial.later l.later l.left l.row_sink.rows.items l.fn.steps l.steps;
  boxes : AreBoxes l.at.boxes l.later;
}

abbrev pub decreases-entries : goal.decreases-entries
decreases-entries g l = length l.later
