use Rattle.std.proofs.Common.{ℤ, pos, ◌*ℤ◌, All, sym, ◌∙◌}
use Rattle.geo_seg.specs.Distances.{Apart}
use Rattle.one_item.specs.declared.parts.Part.{Part}
use Rattle.item_copper.specs.declared.side.SomeParts.{SomeParts}
use Rattle.item_copper.specs.MeasuredSides.{is_taken, parts_at}
use Rattle.item_copper.proofs.Gaps.{gap_start, gap_more, gap_skip, gap_end, length_below, part_falls}
use Rattle.item_copper.proofs.measured_pair.listed_gap.Goals.{then-takes, else-takes}
use Rattle.item_copper.proofs.measured_pair.listed_gap.Goals as goal

abbrev K : SomeParts → Part → ℤ → Type 0
K side part g = All (λ other. Apart part.shape other.shape (pos 2 *ℤ g)) (parts_at side)

pub loop-part-init : goal.loop-part-init
loop-part-init c = gap_start (K c.args.side.now) (is_taken c.args.listed.now.layer) c.args.listed.now.parts.now c.args.most c.requires

pub loop-part-preserved : goal.loop-part-preserved
loop-part-preserved c =
    let side = c.args.side.now in
    let test = is_taken c.args.listed.now.layer in
    let so_far = c.loop-part.invariant in
    let i = c.loop-part.part-index in
    elim c.if-takes.branch [
      | then-takes w ↦
          gap_more (K side) test c.args.listed.now.parts.now (part_falls (parts_at side)) i c.part-item.result c.args.most _ _ _ c.loop-part-test.true c.part-item.is (sym c.takes.ensures ∙ w.if-takes.true) c.requires so_far w.gap_to_side-gap.ensures w.gap-is
      | else-takes w ↦
          gap_skip (K side) test c.args.listed.now.parts.now i c.part-item.result _ _ _ c.loop-part-test.true c.part-item.is (sym c.takes.ensures ∙ w.if-takes.false) so_far w.gap-is
    ]

pub gap_to_side-gap-requires : goal.gap_to_side-gap-requires
gap_to_side-gap-requires c = length_below c.args.most _ c.requires c.loop-part.invariant

pub returns : goal.returns
returns c = gap_end (K c.args.side.now) (is_taken c.args.listed.now.layer) c.args.listed.now.parts.now c.loop-part.part-index c.args.most _ c.requires c.loop-part-test.false c.loop-part.invariant
