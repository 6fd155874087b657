use Rattle.std.proofs.Common.{ℤ, pos, ◌*ℤ◌, List, ◌∷◌, [], All, subst}
use Rattle.geo_seg.specs.Distances.{Apart, IsGap}
use Rattle.one_item.specs.declared.parts.Part.{Part}
use Rattle.one_item.specs.CopperPairs.{Keeps}
use Rattle.int_algebra.proofs.Scalars.{passed}
use Rattle.item_copper.specs.MeasuredSides.{parts_at}
use Rattle.item_copper.proofs.Gaps.{passed_gap, gap_of_lists}
use Rattle.item_copper.proofs.SideLists.{of_listed, of_single, gap_of_one, single_part, listed_parts}
use Rattle.item_copper.proofs.measured_pair.sides_gap.Goals as goal

pub returns-in-Listed : goal.returns-in-Listed
returns-in-Listed c =
    let most = passed c.args.most in
    let others = parts_at c.args.others.now in
    let own = c.in-Listed.listed in
    passed_gap _ c.args.most c.listed_gap.result c.requires
    (subst (λ (ps : List Part). IsGap (Keeps ps others) most c.listed_gap.result) (of_listed c.args.own.now own c.in-Listed.is) (gap_of_lists (listed_parts own) others most c.listed_gap.result c.listed_gap.ensures))

pub returns-in-Single : goal.returns-in-Single
returns-in-Single c =
    let most = passed c.args.most in
    let others = parts_at c.args.others.now in
    let own = single_part c.in-Single.single in
    passed_gap _ c.args.most c.gap_to_side.result c.requires
    (subst (λ (ps : List Part). IsGap (Keeps ps others) most c.gap_to_side.result) (of_single c.args.own.now c.in-Single.single c.in-Single.is)
    (gap_of_lists (own ∷ []) others most c.gap_to_side.result
    (gap_of_one (λ (part : Part) (g : ℤ). All (λ other. Apart part.shape other.shape (pos 2 *ℤ g)) others) own most c.gap_to_side.result c.gap_to_side.ensures)))
