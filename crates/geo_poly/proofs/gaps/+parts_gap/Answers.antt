use Rattle.std.proofs.Common.{◌≡◌, ◌≤◌, ℕ, ℤ, pos, List, w64, to_z, refl, subst, sym, arith}
use Rattle.std.proofs.lemmas.Int.{ints}
use Rattle.int_algebra.proofs.Scalars.{passed}
use Rattle.geo_seg.specs.declared.points.Seg.{Seg}
use Rattle.geo_seg.specs.Boxes.{AreClear}
use Rattle.geo_seg.specs.Distances.{IsGap}
use Rattle.geo_seg.specs.Inside.{outline, EachEdge}
use Rattle.geo_seg.proofs.Passed.{d_kept, d_zero, at_d}
use Rattle.geo_seg.proofs.GapLemmas.{gap_same, gap_whole, gap_none}
use Rattle.geo_poly.specs.OutlineEdges.{IsApart, EachApart}
use Rattle.geo_poly.specs.EdgeRuns.{between}
use Rattle.geo_poly.specs.OutlineParts.{edges_of}
use Rattle.geo_poly.proofs.RunLemmas.{both_apart, edges_are, each_of_none, apart_of_none}
use Rattle.geo_poly.proofs.Falls.{edges_fall, run_step, other_step}
use Rattle.geo_poly.proofs.gaps.+parts_gap.Goals.{then-most-eq0-via-then-most-eq0, then-most-eq0-via-else-most-eq0+then-is_clear}
use Rattle.geo_poly.proofs.gaps.+parts_gap.Goals as goal

pub returns-then-most-eq0 : goal.returns-then-most-eq0
returns-then-most-eq0 n c =
    let p = c.args.p in let q = c.args.q in let most = c.args.most in let kept = d_kept most c.requires.range.from c.requires.range.to in
    let us = edges_of c.args.a.now p in let fs = edges_of c.args.b.now q in
    gap_same refl (sym kept)
    (elim c.then-most-eq0.branch [
      | then-most-eq0-via-then-most-eq0 w ↦
          let zero : most ≡ pos 0 = d_zero most c.requires.range.from c.requires.range.to w.if-most-eq0.true in
          gap_same refl (sym zero) (gap_none (λ d. EachApart d us fs) most c.requires.range.from (λ g some to far. omega (arith, ints)))
      | then-most-eq0-via-else-most-eq0+then-is_clear w ↦
          let e = at_d (λ (z : ℤ). AreClear q.bounds p.bounds z) most _ c.requires.range.from c.requires.range.to w.is_clear.ensures in
          gap_whole (λ d. EachApart d us fs) most c.requires.range.from (both_apart q.bounds p.bounds most us fs c.requires.range.from (e.0 w.if-is_clear.true) c.requires.first.hull c.requires.second.hull)
    ])

pub first-init : goal.first-init
first-init n c =
    let p = c.args.p in let most = c.args.most in let kept = d_kept most c.requires.range.from c.requires.range.to in
    let same : p.low ≤ p.low = omega arith in
    record {
      range = record { from = omega (arith, ints, kept, c.requires.range.from); to = omega (arith, ints, kept, c.requires.range.to) };
      low = same;
      within = omega (arith, c.requires.first.some);
      so_far = gap_same (sym kept) (sym kept) (gap_whole (λ d. EachApart d (between p.low p.low (outline c.args.a.now)) (edges_of c.args.b.now c.args.q)) most c.requires.range.from (each_of_none (λ e. EachEdge (λ f. IsApart f e most) (edges_of c.args.b.now c.args.q)) p.low p.low (outline c.args.a.now) same));
    }

pub first-preserved : goal.first-preserved
first-preserved n c =
    let p = c.args.p in let cs = c.args.a.now in let fs = edges_of c.args.b.now c.args.q in let low = c.first.low in let high = c.end-high.result in
    let so_far = c.first.invariant in let is = c.parts_gap-best.ensures in let next = c.parts_gap-best.result in
    let same : next ≡ passed next = omega (arith, ints, is.from, is.to, so_far.range.to) in
    let after : low ≤ high = omega (arith, c.end-high.ensures.after) in
    record {
      range = record { from = omega (arith, ints, is.from, is.to, so_far.range.to, same); to = omega (arith, ints, is.from, is.to, so_far.range.to, same) };
      low = omega (arith, so_far.low, after);
      within = c.end-high.ensures.within;
      so_far =
          gap_same refl same
          (run_step (λ e d. EachEdge (λ f. IsApart f e d) fs) (λ e. edges_fall e fs) p.low low high (outline cs) _ (to_z w64 c.first.best-bits) next so_far.low after so_far.so_far
          (subst (λ (es : List Seg). IsGap (λ d. EachApart d es fs) (to_z w64 c.first.best-bits) next) (edges_are cs c.part_of.result low high c.part_of.ensures.low c.part_of.ensures.high) is));
    }

pub returns-after-first : goal.returns-after-first
returns-after-first n c =
    let p = c.args.p in let cs = c.args.a.now in let fs = edges_of c.args.b.now c.args.q in
    let e : c.first.low ≡ p.high = omega (arith, c.first.invariant.within) in
    gap_same (d_kept c.args.most c.requires.range.from c.requires.range.to) refl
    (subst (λ (z : ℕ). IsGap (λ d. EachApart d (between p.low z (outline cs)) fs) (passed c.args.most) (to_z w64 c.first.best-bits)) e c.first.invariant.so_far)

pub second-init : goal.second-init
second-init n c =
    let q = c.args.q in let most = c.args.most in let kept = d_kept most c.requires.range.from c.requires.range.to in
    let same : q.low ≤ q.low = omega arith in
    record {
      range = record { from = omega (arith, ints, kept, c.requires.range.from); to = omega (arith, ints, kept, c.requires.range.to) };
      low = same;
      within = omega (arith, c.requires.second.some);
      so_far = gap_same (sym kept) (sym kept) (gap_whole (λ d. EachApart d (edges_of c.args.a.now c.args.p) (between q.low q.low (outline c.args.b.now))) most c.requires.range.from (apart_of_none most (edges_of c.args.a.now c.args.p) q.low q.low (outline c.args.b.now) same));
    }

pub second-preserved : goal.second-preserved
second-preserved n c =
    let q = c.args.q in let ks = c.args.b.now in let us = edges_of c.args.a.now c.args.p in let low = c.second.low in let high = c.end-high-in-second.result in
    let so_far = c.second.invariant in let is = c.parts_gap-best-in-second.ensures in let next = c.parts_gap-best-in-second.result in
    let same : next ≡ passed next = omega (arith, ints, is.from, is.to, so_far.range.to) in
    let after : low ≤ high = omega (arith, c.end-high-in-second.ensures.after) in
    record {
      range = record { from = omega (arith, ints, is.from, is.to, so_far.range.to, same); to = omega (arith, ints, is.from, is.to, so_far.range.to, same) };
      low = omega (arith, so_far.low, after);
      within = c.end-high-in-second.ensures.within;
      so_far =
          gap_same refl same
          (other_step us q.low low high (outline ks) _ (to_z w64 c.second.best-bits) next so_far.low after so_far.so_far
          (subst (λ (es : List Seg). IsGap (λ d. EachApart d us es) (to_z w64 c.second.best-bits) next) (edges_are ks c.part_of-in-second.result low high c.part_of-in-second.ensures.low c.part_of-in-second.ensures.high) is));
    }

pub returns-after-second : goal.returns-after-second
returns-after-second n c =
    let q = c.args.q in let ks = c.args.b.now in let us = edges_of c.args.a.now c.args.p in
    let e : c.second.low ≡ q.high = omega (arith, c.second.invariant.within) in
    gap_same (d_kept c.args.most c.requires.range.from c.requires.range.to) refl
    (subst (λ (z : ℕ). IsGap (λ d. EachApart d us (between q.low z (outline ks))) (passed c.args.most) (to_z w64 c.second.best-bits)) e c.second.invariant.so_far)
