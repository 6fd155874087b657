use Rattle.std.proofs.Common.{ℤ, pos, ◌*ℤ◌, sym, ◌∙◌}
use Rattle.geo_seg.specs.declared.shapes.Shape.{Shape}
use Rattle.geo_seg.specs.Distances.{Apart}
use Rattle.one_item.specs.declared.parts.Part.{Part}
use Rattle.item_copper.specs.MeasuredSides.{is_taken}
use Rattle.item_copper.proofs.Gaps.{gap_start, gap_more, gap_skip, gap_end, length_below, other_falls}
use Rattle.item_copper.proofs.measured_pair.gap_to_listed.Goals.{then-takes, else-takes}
use Rattle.item_copper.proofs.measured_pair.gap_to_listed.Goals as goal

abbrev K : Shape → Part → ℤ → Type 0
K shape other g = Apart shape other.shape (pos 2 *ℤ g)

pub loop-other-init : goal.loop-other-init
loop-other-init c = gap_start (K c.args.shape.now) (is_taken c.args.listed.now.layer) c.args.listed.now.parts.now c.args.most c.requires

pub loop-other-preserved : goal.loop-other-preserved
loop-other-preserved c =
    let shape = c.args.shape.now in
    let test = is_taken c.args.listed.now.layer in
    let so_far = c.loop-other.invariant in
    let i = c.loop-other.other-index in
    elim c.if-takes.branch [
      | then-takes w ↦
          gap_more (K shape) test c.args.listed.now.parts.now (other_falls shape) i c.other-item.result c.args.most _ _ _ c.loop-other-test.true c.other-item.is (sym c.takes.ensures ∙ w.if-takes.true) c.requires so_far w.shape_gap-gap.ensures w.gap-is
      | else-takes w ↦
          gap_skip (K shape) test c.args.listed.now.parts.now i c.other-item.result _ _ _ c.loop-other-test.true c.other-item.is (sym c.takes.ensures ∙ w.if-takes.false) so_far w.gap-is
    ]

pub shape_gap-gap-requires : goal.shape_gap-gap-requires
shape_gap-gap-requires c = length_below c.args.most _ c.requires c.loop-other.invariant

pub returns : goal.returns
returns c = gap_end (K c.args.shape.now) (is_taken c.args.listed.now.layer) c.args.listed.now.parts.now c.loop-other.other-index c.args.most _ c.requires c.loop-other-test.false c.loop-other.invariant
