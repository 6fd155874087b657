use Rattle.std.proofs.Common.{◌∙◌, false, ℕ, List, sym, subst}
use Rattle.geo_seg.specs.declared.boxes.Bounds.{Bounds}
use Rattle.box_index.specs.Tiles.{dirty_of}
use Rattle.row_check.specs.Whole.{AreEnough}
use Rattle.drc_state.specs.States.{checked_in}
use Rattle.drc_session.specs.SessionContents.{state_of}
use Rattle.drc_session.specs.Looks.{AreBoxesIn}
use Rattle.drc_session.proofs.Enough.{enough_tiles}
use Rattle.drc_session.proofs.Rechecked.{updated}
use Rattle.drc_session.proofs.editing.rows_after.Goals as goal

pub check_near-requires-clause-enough : goal.check_near-requires-clause-enough
check_near-requires-clause-enough g c κs within =
    let parts = c.args.parts.now in
    let changed = c.args.effects.changed.items in
    let was = c.args.effects.boxes.items in
    let found = c.in_ok-push_boxes.ensures.boxes in
    let are = subst (λ (ids : List ℕ). AreBoxesIn parts.board ids found.0) c.deref.ensures.value found.2 in
    let enough = enough_tiles (checked_in (state_of parts)) parts.index c.requires.index changed was found.0 are in
    let by_boxes = subst (λ (boxes : List Bounds). AreEnough parts.index changed (dirty_of parts.index boxes false)) (sym (c.deref-then-stays-2.ensures.value ∙ found.1)) enough in
    subst (λ (ids : List ℕ). AreEnough parts.index ids (dirty_of parts.index c.deref-then-stays-2.result.now false)) (sym c.deref-then-stays.ensures.value) by_boxes

pub returns-then-stays-clause-rows : goal.returns-then-stays-clause-rows
returns-then-stays-clause-rows g c =
    let parts = c.args.parts.now in
    updated c.check_near.result parts.board parts.classes parts.rows.items c.check_near.new.rows.items c.as_slice.result.now parts.rules.rules c.deref-then-stays.result.now c.args.effects.changed.items c.as_slice.ensures c.deref-then-stays.ensures.value c.check_near.ensures.rows
