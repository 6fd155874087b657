use Rattle.std.proofs.Common.{inl, inr}
use Rattle.geo_seg.specs.Points.{rational_point_of}
use Rattle.geo_seg.specs.Inside.{outline}
use Rattle.geo_seg.proofs.BoxLemmas.{start_on}
use Rattle.geo_seg.proofs.Passed.{at_reach}
use Rattle.geo_poly.specs.EdgeRuns.{between, IsBeside}
use Rattle.geo_poly.proofs.RunLemmas.{is_right_of, missed_beside, missed_odd, right_ahead, clear_beside, clear_held}
use Rattle.geo_poly.proofs.besides.told_clear.Goals as goal

pub returns-then-is_beside-clause-odd : goal.returns-then-is_beside-clause-odd
returns-then-is_beside-clause-odd c =
    let b = c.args.b in let near = c.args.near in let d = c.args.d in let s = c.args.s in
    missed_odd b s.a (between c.args.low c.args.high (outline c.args.corners.now))
    (missed_beside b near d s.a c.requires.positive (c.requires.near.holds (rational_point_of s.a) (start_on s))
    ((at_reach (IsBeside b near) d _ c.requires.range.from c.requires.range.to c.is_beside.ensures).0 c.if-is_beside.true))
    c.requires.hull

pub returns-then-is_beside-clause-clear : goal.returns-then-is_beside-clause-clear
returns-then-is_beside-clause-clear c =
    let b = c.args.b in let near = c.args.near in let d = c.args.d in
    clear_held b near d (between c.args.low c.args.high (outline c.args.corners.now))
    (clear_beside b near d ((at_reach (IsBeside b near) d _ c.requires.range.from c.requires.range.to c.is_beside.ensures).0 c.if-is_beside.true))
    c.requires.hull.holds

pub returns-then-near-d-clause-odd : goal.returns-then-near-d-clause-odd
returns-then-near-d-clause-odd c =
    let b = c.args.b in let near = c.args.near in let d = c.args.d in let s = c.args.s in
    c.ends_odd.ensures b
    (right_ahead b near d s.a c.requires.positive (c.requires.near.holds (rational_point_of s.a) (start_on s))
    ((is_right_of b near d c.requires.hull.fits c.requires.fits c.requires.range).0 c.if-near-d.true))
    c.requires.hull

pub returns-then-near-d-clause-clear : goal.returns-then-near-d-clause-clear
returns-then-near-d-clause-clear c =
    let b = c.args.b in let near = c.args.near in let d = c.args.d in
    clear_held b near d (between c.args.low c.args.high (outline c.args.corners.now))
    (inl (inr ((is_right_of b near d c.requires.hull.fits c.requires.fits c.requires.range).0 c.if-near-d.true)))
    c.requires.hull.holds
