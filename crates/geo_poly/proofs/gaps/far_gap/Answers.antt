use Rattle.std.proofs.Common.{ℤ, refl, sym, arith}
use Rattle.std.proofs.lemmas.Int.{ints}
use Rattle.geo_seg.specs.Boxes.{AreClear}
use Rattle.geo_seg.specs.Inside.{path, EachEdge}
use Rattle.geo_seg.proofs.Passed.{at_d, d_kept}
use Rattle.geo_seg.proofs.GapLemmas.{gap_same, gap_whole}
use Rattle.geo_poly.specs.OutlineEdges.{IsApart}
use Rattle.geo_poly.proofs.Covers.{each_clear}
use Rattle.geo_poly.proofs.RunLemmas.{run_covers}
use Rattle.geo_poly.proofs.gaps.far_gap.Goals as goal

pub returns-then-is_clear : goal.returns-then-is_clear
returns-then-is_clear c =
    let most = c.args.most in let b = c.args.far in let k = c.bounds.result in let es = path c.args.from c.args.part.now in
    let e = at_d (λ (z : ℤ). AreClear b k z) most _ c.requires.range.from c.requires.range.to c.is_clear.ensures in
    gap_same refl (sym (d_kept most c.requires.range.from c.requires.range.to))
    (gap_whole (λ d. EachEdge (λ e. IsApart e c.args.s d) es) most c.requires.range.from (each_clear b k c.args.s most c.requires.range.from c.bounds.ensures.least.holds (e.0 c.if-is_clear.true) es (run_covers b es c.requires.far)))

pub returns-else-is_clear : goal.returns-else-is_clear
returns-else-is_clear c =
    let is = c.path_gap.ensures in
    gap_same (d_kept c.args.most c.requires.range.from c.requires.range.to) (omega (arith, ints, is.from, is.to, c.requires.range.to, c.requires.range.from)) is
