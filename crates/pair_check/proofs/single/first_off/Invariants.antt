use Rattle.pair_check.specs.Singles.{IsOffAt}
use Rattle.pair_check.specs.Rows.{deciders}
use Rattle.pair_check.specs.CheckViews.{checked_by}
use Rattle.kind_subjects.proofs.TriedLayers.{NoneBefore}
use Rattle.pair_check.proofs.single.first_off.Given as goal

abbrev pub invariant-loop-place : goal.invariant-loop-place
invariant-loop-place l = NoneBefore l.view.board.now.copper (IsOffAt (deciders (checked_by l.view)) l.kind l.single.item.now l.single.facts.now l.n) l.place
