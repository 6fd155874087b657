use Rattle.std.proofs.Common.{◌∙◌, slice_index_or, ap, sym}
use Rattle.std.proofs.lemmas.List.{take_at}
use Rattle.std.proofs.lemmas.Result.{IfOk-weaker}
use Rattle.box_index.proofs.Buckets.{index_of, dirty_is, dirty_none, marks_span}
use Rattle.box_index.proofs.index.TileIndex.dirty.Goals as goal

pub marked-requires-clause-span : goal.marked-requires-clause-span
marked-requires-clause-span c =
    let now = c.deref.ensures.value ∙ take_at c.mark_boxes.new.marks _ _ (c.mark_boxes.auto.marks ∙ c.deref_mut.ensures.len) in
    marks_span c.args.boxes.now _ c.args.all c.deref_mut.result.now c.mark_boxes.new.marks c.deref.result.now c.reached-span.result
    (λ tile d l. ap (λ ms. slice_index_or ms tile d) c.deref_mut.ensures.value ∙ c.in_ok-marks.ensures.each tile d l) c.mark_boxes.ensures now c.reached-span.ensures

pub returns-clause-tiles : goal.returns-clause-tiles
returns-clause-tiles c =
    let now = c.deref.ensures.value ∙ take_at c.mark_boxes.new.marks _ _ (c.mark_boxes.auto.marks ∙ c.deref_mut.ensures.len) in
    let same = dirty_is (index_of c.self.inside.reach c.self.inside.boxes) c.args.self.now c.args.boxes.now c.args.all c.deref_mut.result.now c.mark_boxes.new.marks c.deref.result.now c.self.view_is c.self.invariant.0
    (λ tile d l. ap (λ ms. slice_index_or ms tile d) c.deref_mut.ensures.value ∙ c.in_ok-marks.ensures.each tile d l) c.mark_boxes.ensures now in
    IfOk-weaker c.marked.result _ _ (λ tiles e. e ∙ same) c.marked.ensures

pub returns-then-not-all-clause-tiles : goal.returns-then-not-all-clause-tiles
returns-then-not-all-clause-tiles c = c.new.ensures.items ∙ dirty_none c.args.self.now c.args.boxes.now c.args.all (sym c.is_empty.ensures ∙ c.if-is_empty.true) c.if-not-all.true
