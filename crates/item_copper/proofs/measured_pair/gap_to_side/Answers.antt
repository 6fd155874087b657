use Rattle.std.proofs.Common.{ℤ, pos, ◌*ℤ◌, List, All, subst}
use Rattle.geo_seg.specs.Distances.{Apart, IsGap}
use Rattle.one_item.specs.declared.parts.Part.{Part}
use Rattle.int_algebra.proofs.Scalars.{passed}
use Rattle.item_copper.proofs.Gaps.{passed_gap}
use Rattle.item_copper.proofs.SideLists.{of_listed, of_single, gap_of_one, single_part}
use Rattle.item_copper.proofs.measured_pair.gap_to_side.Goals as goal

pub returns-in-Listed : goal.returns-in-Listed
returns-in-Listed c =
    passed_gap _ c.args.most c.gap_to_listed.result c.requires
    (subst (λ (ps : List Part). IsGap (λ g. All (λ other. Apart c.args.shape.now other.shape (pos 2 *ℤ g)) ps) (passed c.args.most) c.gap_to_listed.result) (of_listed c.args.side.now c.in-Listed.listed c.in-Listed.is) c.gap_to_listed.ensures)

pub returns-in-Single : goal.returns-in-Single
returns-in-Single c =
    passed_gap _ c.args.most c.shape_gap.result c.requires
    (subst (λ (ps : List Part). IsGap (λ g. All (λ other. Apart c.args.shape.now other.shape (pos 2 *ℤ g)) ps) (passed c.args.most) c.shape_gap.result) (of_single c.args.side.now c.in-Single.single c.in-Single.is)
    (gap_of_one (λ (other : Part) (g : ℤ). Apart c.args.shape.now other.shape (pos 2 *ℤ g)) (single_part c.in-Single.single) (passed c.args.most) c.shape_gap.result c.shape_gap.ensures))
