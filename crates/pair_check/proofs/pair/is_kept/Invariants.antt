use Rattle.pair_check.specs.Rows.{deciders}
use Rattle.pair_check.specs.CheckViews.{checked_by}
use Rattle.pair_check.specs.Stages.{pair_of, IsNearOrMeets}
use Rattle.kind_subjects.proofs.TriedLayers.{NoneBefore}
use Rattle.pair_check.proofs.pair.is_kept.Given as goal

abbrev pub invariant-loop-place : goal.invariant-loop-place
invariant-loop-place l = NoneBefore l.view.board.now.copper (IsNearOrMeets (deciders (checked_by l.view)) (pair_of l.pair)) l.place
