use Rattle.std.proofs.Common.{◌≡◌, ◌≤◌, ℕ, ℤ, List, refl, subst, sym, arith}
use Rattle.geo_seg.specs.declared.points.Seg.{Seg}
use Rattle.geo_seg.specs.Boxes.{AreClear}
use Rattle.geo_seg.specs.Inside.{outline, SomeEdge}
use Rattle.geo_seg.proofs.Choices.{fails_by, surely, surely_not}
use Rattle.geo_seg.proofs.Passed.{passed, d_kept, at_d, at_more}
use Rattle.geo_poly.specs.OutlineEdges.{IsReached, SomeReached}
use Rattle.geo_poly.specs.EdgeRuns.{between}
use Rattle.geo_poly.specs.OutlineParts.{edges_of}
use Rattle.geo_poly.proofs.RunLemmas.{none_both, edges_are, none_on, some_part, none_of_none, beyond_on, reached_part, beyond_of_none}
use Rattle.geo_poly.proofs.runs.+parts_within.Goals as goal

-- the edge is within the distance of some of the others
abbrev P : List Seg → ℤ → Seg → Type 0
P fs d e = SomeEdge (λ f. IsReached f e d) fs

pub returns-then-is_clear : goal.returns-then-is_clear
returns-then-is_clear n c =
    let p = c.args.p in let q = c.args.q in let d = c.args.d in
    let e = at_more (λ (z : ℤ). AreClear q.bounds p.bounds z) d _ c.requires.range.from c.requires.range.to c.is_clear.ensures in
    surely_not _ refl (none_both q.bounds p.bounds d (edges_of c.args.a.now p) (edges_of c.args.b.now q) c.requires.range.from (e.0 c.if-is_clear.true) c.requires.first.hull c.requires.second.hull)

pub returns-then-q-le-FIRST_RUN : goal.returns-then-q-le-FIRST_RUN
returns-then-q-le-FIRST_RUN n c = at_d (λ (z : ℤ). SomeReached z (edges_of c.args.a.now c.args.p) (edges_of c.args.b.now c.args.q)) c.args.d _ c.requires.range.from c.requires.range.to c.short_within.ensures

pub first-init : goal.first-init
first-init n c =
    let p = c.args.p in
    let same : p.low ≤ p.low = omega arith in
    let up : p.low ≤ p.high = omega (arith, c.requires.first.some) in
    (same, up, none_of_none (P (edges_of c.args.b.now c.args.q) (passed c.args.d)) p.low p.low (outline c.args.a.now) same)

pub returns-then-parts_within : goal.returns-then-parts_within
returns-then-parts_within n c =
    let p = c.args.p in let cs = c.args.a.now in let fs = edges_of c.args.b.now c.args.q in let low = c.first.low in let high = c.end-high.result in let d = c.args.d in
    let after : low ≤ high = omega (arith, c.end-high.ensures.after) in
    surely _ refl
    (subst (λ (z : ℤ). SomeReached z (edges_of cs p) fs) (d_kept d c.requires.range.from c.requires.range.to)
    (some_part (P fs (passed d)) p.low low high p.high (outline cs) c.first.invariant.0 after c.end-high.ensures.within
    (subst (SomeEdge (P fs (passed d))) (edges_are cs c.part_of.result low high c.part_of.ensures.low c.part_of.ensures.high) (c.parts_within.ensures.0 c.if-parts_within.true))))

pub first-preserved : goal.first-preserved
first-preserved n c =
    let p = c.args.p in let cs = c.args.a.now in let fs = edges_of c.args.b.now c.args.q in let low = c.first.low in let high = c.end-high.result in let d = c.args.d in
    let after : low ≤ high = omega (arith, c.end-high.ensures.after) in
    let up : p.low ≤ high = omega (arith, c.first.invariant.0, after) in (
      up,
      c.end-high.ensures.within,
      none_on (P fs (passed d)) p.low low high (outline cs) c.first.invariant.0 after c.first.invariant.2
          (λ x. fails_by _ c.parts_within.ensures c.if-parts_within.false
          (subst (SomeEdge (P fs (passed d))) (sym (edges_are cs c.part_of.result low high c.part_of.ensures.low c.part_of.ensures.high)) x)),
    )

pub returns-after-first : goal.returns-after-first
returns-after-first n c =
    let p = c.args.p in let cs = c.args.a.now in let fs = edges_of c.args.b.now c.args.q in
    let e : c.first.low ≡ p.high = omega arith in
    surely_not _ refl
    (λ x. subst (λ (z : ℕ). ¬ (SomeReached (passed c.args.d) (between p.low z (outline cs)) fs)) e c.first.invariant.2
    (subst (λ (z : ℤ). SomeReached z (edges_of cs p) fs) (sym (d_kept c.args.d c.requires.range.from c.requires.range.to)) x))

pub second-init : goal.second-init
second-init n c =
    let q = c.args.q in
    let same : q.low ≤ q.low = omega arith in
    let up : q.low ≤ q.high = omega (arith, c.requires.second.some) in
    (same, up, beyond_of_none (passed c.args.d) (edges_of c.args.a.now c.args.p) q.low q.low (outline c.args.b.now) same)

pub returns-then-parts_within-2 : goal.returns-then-parts_within-2
returns-then-parts_within-2 n c =
    let q = c.args.q in let ks = c.args.b.now in let us = edges_of c.args.a.now c.args.p in let low = c.second.low in let high = c.end-high-in-second.result in let d = c.args.d in
    let after : low ≤ high = omega (arith, c.end-high-in-second.ensures.after) in
    surely _ refl
    (subst (λ (z : ℤ). SomeReached z us (edges_of ks q)) (d_kept d c.requires.range.from c.requires.range.to)
    (reached_part (passed d) us q.low low high q.high (outline ks) c.second.invariant.0 after c.end-high-in-second.ensures.within
    (subst (SomeReached (passed d) us) (edges_are ks c.part_of-in-second.result low high c.part_of-in-second.ensures.low c.part_of-in-second.ensures.high) (c.parts_within-in-second.ensures.0 c.if-parts_within-2.true))))

pub second-preserved : goal.second-preserved
second-preserved n c =
    let q = c.args.q in let ks = c.args.b.now in let us = edges_of c.args.a.now c.args.p in let low = c.second.low in let high = c.end-high-in-second.result in let d = c.args.d in
    let after : low ≤ high = omega (arith, c.end-high-in-second.ensures.after) in
    let up : q.low ≤ high = omega (arith, c.second.invariant.0, after) in (
      up,
      c.end-high-in-second.ensures.within,
      beyond_on (passed d) us q.low low high (outline ks) c.second.invariant.0 after c.second.invariant.2
          (λ x. fails_by _ c.parts_within-in-second.ensures c.if-parts_within-2.false
          (subst (SomeReached (passed d) us) (sym (edges_are ks c.part_of-in-second.result low high c.part_of-in-second.ensures.low c.part_of-in-second.ensures.high)) x)),
    )

pub returns-after-second : goal.returns-after-second
returns-after-second n c =
    let q = c.args.q in let ks = c.args.b.now in let us = edges_of c.args.a.now c.args.p in
    let e : c.second.low ≡ q.high = omega arith in
    surely_not _ refl
    (λ x. subst (λ (z : ℕ). ¬ (SomeReached (passed c.args.d) us (between q.low z (outline ks)))) e c.second.invariant.2
    (subst (λ (z : ℤ). SomeReached z us (edges_of ks q)) (sym (d_kept c.args.d c.requires.range.from c.requires.range.to)) x))
