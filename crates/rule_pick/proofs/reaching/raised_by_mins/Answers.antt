use Rattle.std.proofs.Common.{[], ◌∷◌}
use Rattle.rule_pick.proofs.Raising.{joined, raised_by_passed}
use Rattle.rule_pick.proofs.reaching.raised_by_mins.Goals as goal

pub returns : goal.returns
returns c =
    let m = c.args.mins.now in
    let n = c.args.n.nm in
    let a = c.raised_to-with_clearance.result.nm in
    let b = c.raised_to-with_hole.result.nm in
    let d = c.raised_to-with_holes.result.nm in
    let e = c.raised_to.result.nm in
    let one = raised_by_passed n a m.min_clearance m.clearance_in_range c.raised_to-with_clearance.ensures in
    let second = raised_by_passed a b m.min_hole_clearance m.hole_in_range c.raised_to-with_hole.ensures in
    let third = raised_by_passed b d m.min_hole_to_hole m.holes_in_range c.raised_to-with_holes.ensures in
    let fourth = raised_by_passed d e m.min_copper_edge_clearance m.edge_in_range c.raised_to.ensures in
    let two = joined n a b (m.min_clearance ∷ []) (m.min_hole_clearance ∷ []) one second in
    let three = joined n b d (m.min_clearance ∷ m.min_hole_clearance ∷ []) (m.min_hole_to_hole ∷ []) two third in
    joined n d e (m.min_clearance ∷ m.min_hole_clearance ∷ m.min_hole_to_hole ∷ []) (m.min_copper_edge_clearance ∷ []) three fourth
