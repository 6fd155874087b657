use Rattle.std.proofs.Common.{ℤ, ◌≤◌, ◌↔◌, IsTrue, List, length, take, drop, subst, sym}
use Rattle.geo_seg.specs.declared.points.Point.{Point}
use Rattle.geo_seg.specs.declared.points.Seg.{Seg}
use Rattle.geo_seg.specs.Points.{rational_point_of}
use Rattle.geo_seg.specs.Inside.{outline, EachEdge}
use Rattle.geo_seg.specs.RunBoxes.{IsRunBox}
use Rattle.geo_seg.proofs.Passed.{passed}
use Rattle.geo_poly.specs.EdgeRuns.{between, LiesClear, PassOdd}
use Rattle.geo_poly.proofs.RunLemmas.{d_reach, outline_length}
use Rattle.geo_poly.proofs.besides.clear_step.Goals as goal

pub told_clear-requires-clause-hull : goal.told_clear-requires-clause-hull
told_clear-requires-clause-hull c =
    let b = c.in_ok-b.b in let cs = c.corners-corners.result.now in
    subst (λ (es : List Seg). IsRunBox es b) (c.end-high.ensures.run (outline cs) (outline_length cs))
    (subst (λ (z : List Point). IsRunBox (take c.args.size (drop c.args.low (outline z))) b) (sym c.corners-corners.ensures.same) c.in_ok-b.ensures)

pub returns : goal.returns
returns c =
    let ks = c.args.poly.now in let low = c.args.low in let high = c.end-high.result in let d = c.args.d in let near = c.args.near in
    record {
      counted = record {
        after = c.end-high.ensures.after;
        within = subst (λ (z : List Point). high ≤ length z) c.corners-corners.ensures.same c.end-high.ensures.within;
        odd = subst (λ (z : List Point). IsTrue c.in_ok-odd.odd ↔ PassOdd (rational_point_of c.args.s.a) (between low high (outline z))) c.corners-corners.ensures.same c.in_ok-odd.ensures.odd;
      };
      past = subst (λ (z : ℤ). EachEdge (LiesClear near z) (between low high (outline ks))) (d_reach d c.requires.range.from c.requires.range.to)
          (subst (λ (z : List Point). EachEdge (LiesClear near (passed d)) (between low high (outline z))) c.corners-corners.ensures.same c.in_ok-odd.ensures.clear);
    }
