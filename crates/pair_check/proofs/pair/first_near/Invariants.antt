use Rattle.pair_check.specs.Pairs.{IsNearAt}
use Rattle.pair_check.specs.Rows.{deciders}
use Rattle.pair_check.specs.CheckViews.{checked_by}
use Rattle.pair_check.specs.Stages.{pair_of}
use Rattle.kind_subjects.proofs.TriedLayers.{NoneBefore}
use Rattle.pair_check.proofs.pair.first_near.Given as goal

abbrev pub invariant-loop-place : goal.invariant-loop-place
invariant-loop-place l = NoneBefore l.view.board.now.copper (IsNearAt (deciders (checked_by l.view)) l.kind (pair_of l.pair)) l.place
