use Rattle.std.proofs.Common.{◌≡◌, ◌≤◌, ℕ, ℤ, List, refl, subst, sym, arith}
use Rattle.geo_seg.specs.declared.points.Seg.{Seg}
use Rattle.geo_seg.specs.Boxes.{AreClear}
use Rattle.geo_seg.specs.Inside.{outline, EachEdge}
use Rattle.geo_seg.proofs.Choices.{fails_by, surely, surely_not}
use Rattle.geo_seg.proofs.Passed.{passed, d_kept, at_d}
use Rattle.geo_poly.specs.OutlineEdges.{IsApart, EachApart}
use Rattle.geo_poly.specs.EdgeRuns.{between}
use Rattle.geo_poly.specs.OutlineParts.{edges_of}
use Rattle.geo_poly.proofs.RunLemmas.{both_apart, edges_are, each_on, each_part, each_of_none, apart_on, apart_part, apart_of_none}
use Rattle.geo_poly.proofs.runs.+parts_apart.Goals as goal

-- the edge is apart from each of the others
abbrev P : List Seg → ℤ → Seg → Type 0
P fs d e = EachEdge (λ f. IsApart f e d) fs

pub returns-then-is_clear : goal.returns-then-is_clear
returns-then-is_clear n c =
    let p = c.args.p in let q = c.args.q in let d = c.args.d in
    let e = at_d (λ (z : ℤ). AreClear q.bounds p.bounds z) d _ c.requires.range.from c.requires.range.to c.is_clear.ensures in
    surely _ refl (both_apart q.bounds p.bounds d (edges_of c.args.a.now p) (edges_of c.args.b.now q) c.requires.range.from (e.0 c.if-is_clear.true) c.requires.first.hull c.requires.second.hull)

pub returns-then-q-le-FIRST_RUN : goal.returns-then-q-le-FIRST_RUN
returns-then-q-le-FIRST_RUN n c = at_d (λ (z : ℤ). EachApart z (edges_of c.args.a.now c.args.p) (edges_of c.args.b.now c.args.q)) c.args.d _ c.requires.range.from c.requires.range.to c.short_apart.ensures

pub first-init : goal.first-init
first-init n c =
    let p = c.args.p in
    let same : p.low ≤ p.low = omega arith in
    let up : p.low ≤ p.high = omega (arith, c.requires.first.some) in
    (same, up, each_of_none (P (edges_of c.args.b.now c.args.q) (passed c.args.d)) p.low p.low (outline c.args.a.now) same)

pub returns-then-not-parts_apart : goal.returns-then-not-parts_apart
returns-then-not-parts_apart n c =
    let p = c.args.p in let cs = c.args.a.now in let fs = edges_of c.args.b.now c.args.q in let low = c.first.low in let high = c.end-high.result in let d = c.args.d in
    let after : low ≤ high = omega (arith, c.end-high.ensures.after) in
    surely_not _ refl
    (λ h. fails_by _ c.parts_apart.ensures c.if-not-parts_apart.true
    (subst (EachEdge (P fs (passed d))) (sym (edges_are cs c.part_of.result low high c.part_of.ensures.low c.part_of.ensures.high))
    (each_part (P fs (passed d)) p.low low high p.high (outline cs) c.first.invariant.0 after c.end-high.ensures.within
    (subst (λ (z : ℤ). EachApart z (edges_of cs p) fs) (sym (d_kept d c.requires.range.from c.requires.range.to)) h))))

pub first-preserved : goal.first-preserved
first-preserved n c =
    let p = c.args.p in let cs = c.args.a.now in let fs = edges_of c.args.b.now c.args.q in let low = c.first.low in let high = c.end-high.result in let d = c.args.d in
    let after : low ≤ high = omega (arith, c.end-high.ensures.after) in
    let up : p.low ≤ high = omega (arith, c.first.invariant.0, after) in (
      up,
      c.end-high.ensures.within,
      each_on (P fs (passed d)) p.low low high (outline cs) c.first.invariant.0 after c.first.invariant.2
          (subst (EachEdge (P fs (passed d))) (edges_are cs c.part_of.result low high c.part_of.ensures.low c.part_of.ensures.high) (c.parts_apart.ensures.0 c.if-not-parts_apart.false)),
    )

pub returns-after-first : goal.returns-after-first
returns-after-first n c =
    let p = c.args.p in let cs = c.args.a.now in let fs = edges_of c.args.b.now c.args.q in
    let e : c.first.low ≡ p.high = omega arith in
    surely _ refl
    (subst (λ (z : ℤ). EachApart z (edges_of cs p) fs) (d_kept c.args.d c.requires.range.from c.requires.range.to)
    (subst (λ (z : ℕ). EachApart (passed c.args.d) (between p.low z (outline cs)) fs) e c.first.invariant.2))

pub second-init : goal.second-init
second-init n c =
    let q = c.args.q in
    let same : q.low ≤ q.low = omega arith in
    let up : q.low ≤ q.high = omega (arith, c.requires.second.some) in
    (same, up, apart_of_none (passed c.args.d) (edges_of c.args.a.now c.args.p) q.low q.low (outline c.args.b.now) same)

pub returns-then-not-parts_apart-2 : goal.returns-then-not-parts_apart-2
returns-then-not-parts_apart-2 n c =
    let q = c.args.q in let ks = c.args.b.now in let us = edges_of c.args.a.now c.args.p in let low = c.second.low in let high = c.end-high-in-second.result in let d = c.args.d in
    let after : low ≤ high = omega (arith, c.end-high-in-second.ensures.after) in
    surely_not _ refl
    (λ h. fails_by _ c.parts_apart-in-second.ensures c.if-not-parts_apart-2.true
    (subst (EachApart (passed d) us) (sym (edges_are ks c.part_of-in-second.result low high c.part_of-in-second.ensures.low c.part_of-in-second.ensures.high))
    (apart_part (passed d) us q.low low high q.high (outline ks) c.second.invariant.0 after c.end-high-in-second.ensures.within
    (subst (λ (z : ℤ). EachApart z us (edges_of ks q)) (sym (d_kept d c.requires.range.from c.requires.range.to)) h))))

pub second-preserved : goal.second-preserved
second-preserved n c =
    let q = c.args.q in let ks = c.args.b.now in let us = edges_of c.args.a.now c.args.p in let low = c.second.low in let high = c.end-high-in-second.result in let d = c.args.d in
    let after : low ≤ high = omega (arith, c.end-high-in-second.ensures.after) in
    let up : q.low ≤ high = omega (arith, c.second.invariant.0, after) in (
      up,
      c.end-high-in-second.ensures.within,
      apart_on (passed d) us q.low low high (outline ks) c.second.invariant.0 after c.second.invariant.2
          (subst (EachApart (passed d) us) (edges_are ks c.part_of-in-second.result low high c.part_of-in-second.ensures.low c.part_of-in-second.ensures.high) (c.parts_apart-in-second.ensures.0 c.if-not-parts_apart-2.false)),
    )

pub returns-after-second : goal.returns-after-second
returns-after-second n c =
    let q = c.args.q in let ks = c.args.b.now in let us = edges_of c.args.a.now c.args.p in
    let e : c.second.low ≡ q.high = omega arith in
    surely _ refl
    (subst (λ (z : ℤ). EachApart z us (edges_of ks q)) (d_kept c.args.d c.requires.range.from c.requires.range.to)
    (subst (λ (z : ℕ). EachApart (passed c.args.d) us (between q.low z (outline ks))) e c.second.invariant.2))
