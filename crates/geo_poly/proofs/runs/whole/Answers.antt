use Rattle.std.proofs.Common.{◌≤◌, List, length, subst, sym, arith}
use Rattle.geo_seg.specs.declared.points.Point.{Point}
use Rattle.geo_seg.specs.declared.points.Seg.{Seg}
use Rattle.geo_seg.specs.RunBoxes.{IsRunBox}
use Rattle.geo_poly.proofs.RunLemmas.{all_edges, outline_box}
use Rattle.geo_poly.proofs.runs.whole.Goals as goal

pub returns-clause-part : goal.returns-clause-part
returns-clause-part c =
    let cs = c.corners-all.result.now in let ks = c.args.poly.now in let b = c.bounds.result in
    let n = length cs in
    let all : length cs ≤ n = omega arith in
    record {
      some = omega (arith, c.corners-all.ensures.enough);
      within = subst (λ (z : List Point). n ≤ length z) c.corners-all.ensures.same all;
      hull = subst (λ (es : List Seg). IsRunBox es b) (sym (all_edges cs ks n c.corners-all.ensures.same all)) (outline_box b ks c.bounds.ensures.least c.bounds.ensures.fits);
    }

pub returns-clause-whole : goal.returns-clause-whole
returns-clause-whole c =
    let cs = c.corners-all.result.now in
    let all : length cs ≤ length cs = omega arith in
    all_edges cs c.args.poly.now (length cs) c.corners-all.ensures.same all
