use Rattle.geo_seg.specs.Inside.{outline}
use Rattle.geo_seg.proofs.Passed.{left_in_range}
use Rattle.geo_poly.specs.EdgeRuns.{between}
use Rattle.geo_poly.proofs.RunLemmas.{missed_odd, lt_kept}
use Rattle.geo_poly.proofs.parity.told_by.Goals as goal

pub returns-then-is_missed : goal.returns-then-is_missed
returns-then-is_missed c = missed_odd c.args.b c.args.p (between c.args.low c.args.high (outline c.args.corners.now)) (c.is_missed.ensures c.if-is_missed.true) c.requires.hull

pub returns-then-p-b : goal.returns-then-p-b
returns-then-p-b c =
    let b = c.args.b in let p = c.args.p in
    c.ends_odd.ensures b (lt_kept p.x b.left p.x_in_range (left_in_range 1000000000 b c.requires.hull.fits) c.if-p-b.true) c.requires.hull
