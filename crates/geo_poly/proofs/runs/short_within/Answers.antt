use Rattle.std.proofs.Common.{ℤ, ◌-◌, List, take, drop, subst, sym}
use Rattle.geo_seg.specs.declared.points.Seg.{Seg}
use Rattle.geo_seg.specs.Inside.{path}
use Rattle.geo_seg.specs.RunBoxes.{IsRunBox}
use Rattle.geo_seg.proofs.Passed.{at_d}
use Rattle.geo_poly.specs.OutlineEdges.{SomeReached}
use Rattle.geo_poly.specs.OutlineParts.{edges_of}
use Rattle.geo_poly.proofs.Answers.{iff_at}
use Rattle.geo_poly.proofs.RunLemmas.{piece}
use Rattle.geo_poly.proofs.runs.short_within.Goals as goal

pub paths_within-requires-clause-far : goal.paths_within-requires-clause-far
paths_within-requires-clause-far c =
    let q = c.args.q in
    subst (λ (es : List Seg). IsRunBox es q.bounds) (piece c.before-3.result c.corners-others.result.now c.args.b.now q.low q.high c.corners-others.ensures.same c.before-3.ensures) c.requires.second.hull

pub returns : goal.returns
returns c =
    let cs = c.corners-corners.result.now in let ks = c.corners-others.result.now in let p = c.args.p in let q = c.args.q in let d = c.args.d in
    let us = path c.before-2.result (take (p.high - p.low) (drop p.low cs)) in let vs = path c.before-3.result (take (q.high - q.low) (drop q.low ks)) in
    iff_at (λ (z : List Seg). SomeReached d z (edges_of c.args.b.now q)) _ _ (sym (piece c.before-2.result cs c.args.a.now p.low p.high c.corners-corners.ensures.same c.before-2.ensures))
    (iff_at (λ (z : List Seg). SomeReached d us z) _ _ (sym (piece c.before-3.result ks c.args.b.now q.low q.high c.corners-others.ensures.same c.before-3.ensures))
    (at_d (λ (z : ℤ). SomeReached z us vs) d _ c.requires.range.from c.requires.range.to c.paths_within.ensures))
