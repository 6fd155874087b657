use Rattle.std.proofs.Common.{length}
use Rattle.pair_check.specs.CheckViews.{checked_by}
use Rattle.row_check.proofs.TileEnds.{IsPushedTo}
use Rattle.row_check.proofs.tile.push_beside.Given as goal

abbrev pub invariant-walk : goal.invariant-walk
invariant-walk g l = IsPushedTo (checked_by l.tested.view.now) l.at.index.now l.at.tile l.first l.at.boxes l.others l.left l.fn.row_sink.rows.items l.row_sink.rows.items l.fn.steps l.steps

abbrev pub decreases-walk : goal.decreases-walk
decreases-walk g l = length l.left
