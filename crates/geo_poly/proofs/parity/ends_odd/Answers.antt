use Rattle.std.proofs.Common.{◌-◌, ◌↔◌, IsTrue, not, take, drop, subst}
use Rattle.std.specs.Int.Signed.{le_z}
use mathlib.Core.Bool.{beq}
use Rattle.geo_seg.specs.declared.points.Point.{Point}
use Rattle.geo_seg.specs.Points.{rational_point_of}
use Rattle.geo_seg.specs.Inside.{outline}
use Rattle.geo_seg.proofs.Passed.{passed}
use Rattle.geo_poly.specs.EdgeRuns.{between, PassOdd}
use Rattle.geo_poly.proofs.RunLemmas.{part_path, part_length, ends_code}
use Rattle.geo_poly.proofs.parity.ends_odd.Goals as goal

pub returns : goal.returns
returns c = λ b k r.
    let cs = c.args.corners.now in let low = c.args.low in let high = c.args.high in let p = c.args.p in
    let a = c.before-2.result in let x = c.index-part-part.result in let es = between low high (outline cs) in
    subst (λ (z : Point). IsTrue (not (beq (le_z (passed a.y) (passed p.y)) (le_z (passed z.y) (passed p.y)))) ↔ PassOdd (rational_point_of p) es) c.index-part-part.is
    (ends_code b p a x (take (high - low) (drop low cs)) es (part_path a cs low high c.before-2.ensures) k (part_length cs low high c.requires.low c.requires.high) c.index-part-part.is r)
