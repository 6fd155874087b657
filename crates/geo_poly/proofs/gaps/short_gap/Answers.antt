use Rattle.std.proofs.Common.{◌-◌, List, take, drop, subst, sym, arith}
use Rattle.std.proofs.lemmas.Int.{ints}
use Rattle.geo_seg.specs.declared.points.Seg.{Seg}
use Rattle.geo_seg.specs.Distances.{IsGap}
use Rattle.geo_seg.specs.Inside.{path}
use Rattle.geo_seg.specs.RunBoxes.{IsRunBox}
use Rattle.geo_seg.proofs.Passed.{passed, d_kept}
use Rattle.geo_seg.proofs.GapLemmas.{gap_same}
use Rattle.geo_poly.specs.OutlineEdges.{EachApart}
use Rattle.geo_poly.specs.OutlineParts.{edges_of}
use Rattle.geo_poly.proofs.RunLemmas.{piece}
use Rattle.geo_poly.proofs.gaps.short_gap.Goals as goal

pub paths_gap-requires-clause-far : goal.paths_gap-requires-clause-far
paths_gap-requires-clause-far c =
    let q = c.args.q in
    subst (λ (es : List Seg). IsRunBox es q.bounds) (piece c.before-3.result c.corners-others.result.now c.args.b.now q.low q.high c.corners-others.ensures.same c.before-3.ensures) c.requires.second.hull

pub returns : goal.returns
returns c =
    let cs = c.corners-corners.result.now in let ks = c.corners-others.result.now in let p = c.args.p in let q = c.args.q in let most = c.args.most in
    let us = path c.before-2.result (take (p.high - p.low) (drop p.low cs)) in let is = c.paths_gap.ensures in let r = c.paths_gap.result in
    gap_same (d_kept most c.requires.range.from c.requires.range.to) (omega (arith, ints, is.from, is.to, c.requires.range.to, c.requires.range.from))
    (subst (λ (z : List Seg). IsGap (λ d. EachApart d z (edges_of c.args.b.now q)) (passed most) r) (sym (piece c.before-2.result cs c.args.a.now p.low p.high c.corners-corners.ensures.same c.before-2.ensures))
    (subst (λ (z : List Seg). IsGap (λ d. EachApart d us z) (passed most) r) (sym (piece c.before-3.result ks c.args.b.now q.low q.high c.corners-others.ensures.same c.before-3.ensures)) is))
