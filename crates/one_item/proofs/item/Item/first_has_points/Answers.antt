use Rattle.std.proofs.Common.{subst}
use Rattle.one_item.specs.ItemParts.{hole_parts, kind_parts, FirstHasPoints}
use Rattle.one_item.proofs.MovedApart.{first_of_both}
use Rattle.one_item.proofs.item.Item.first_has_points.Goals as goal

pub returns : goal.returns
returns c =
    let item = c.args.self.now in
    first_of_both item.copper _ (subst FirstHasPoints c.as_slice.ensures c.first_of_parts.ensures)
    (first_of_both (hole_parts item.hole) (kind_parts item.what) c.first_of_hole.ensures
    (subst FirstHasPoints c.parts.ensures (first_of_both c.parts.result.0.now c.parts.result.1.now c.first_of_parts-2.ensures c.first_of_parts-3.ensures)))
