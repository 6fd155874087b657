use Rattle.std.proofs.Common.{◌≡◌, ◌≤◌, List, length, w64, to_z, refl, subst, sym, arith}
use Rattle.std.proofs.lemmas.Int.{ints}
use Rattle.int_algebra.proofs.Scalars.{passed}
use Rattle.geo_seg.specs.declared.points.Seg.{Seg}
use Rattle.geo_seg.specs.Distances.{IsGap}
use Rattle.geo_seg.specs.Inside.{outline, EachEdge}
use Rattle.geo_seg.proofs.Passed.{d_kept}
use Rattle.geo_seg.proofs.GapLemmas.{gap_same}
use Rattle.geo_poly.specs.OutlineEdges.{IsApart}
use Rattle.geo_poly.proofs.RunLemmas.{all_edges}
use Rattle.geo_poly.proofs.Falls.{edge_falls, run_step}
use Rattle.geo_poly.proofs.gaps.outline_gap.Goals as goal

pub runs-preserved : goal.runs-preserved
runs-preserved c =
    let ks = c.args.poly.now in let low = c.runs.low in let next = c.kept_until-next.result in let is = c.kept_until-next.ensures.gap in let so_far = c.runs.invariant in let s = c.args.s in
    let same : next.gap ≡ passed next.gap = omega (arith, ints, is.from, is.to, so_far.range.to) in
    let first : 0 ≤ low = omega arith in let after : low ≤ next.high = omega (arith, c.kept_until-next.ensures.after) in
    record {
      range = record { from = omega (arith, ints, is.from, is.to, so_far.range.to, same); to = omega (arith, ints, is.from, is.to, so_far.range.to, same) };
      within = subst (λ z. next.high ≤ length z) (sym c.corners-all.ensures.same) c.kept_until-next.ensures.within;
      so_far = gap_same refl same (run_step (λ e d. IsApart e s d) (edge_falls s) 0 low next.high (outline ks) _ _ next.gap first after so_far.so_far is);
    }

pub returns : goal.returns
returns c =
    let ks = c.args.poly.now in let cs = c.corners-all.result.now in let low = c.runs.low in
    let all : length cs ≤ low = omega arith in
    gap_same (d_kept c.args.most c.requires.from c.requires.to) refl
    (subst (λ (es : List Seg). IsGap (λ d. EachEdge (λ e. IsApart e c.args.s d) es) (passed c.args.most) (to_z w64 c.runs.best-bits)) (all_edges cs ks low c.corners-all.ensures.same all) c.runs.invariant.so_far)
