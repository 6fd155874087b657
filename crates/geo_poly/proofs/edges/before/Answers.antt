use Rattle.std.proofs.Common.{◌≡◌, ℕ, drop, subst, arith}
use Rattle.geo_seg.specs.Inside.{path, outline}
use Rattle.geo_seg.proofs.RunBoxes.{outline_is}
use Rattle.geo_poly.proofs.RunLemmas.{before_is}
use Rattle.geo_poly.proofs.edges.before.Goals as goal

pub returns-then-low-eq0 : goal.returns-then-low-eq0
returns-then-low-eq0 c =
    let cs = c.args.corners.now in let x = c.index-corners-corners.result in
    let e : 0 ≡ c.args.low = omega arith in
    subst (λ (k : ℕ). drop k (outline cs) ≡ path x (drop k cs)) e (outline_is cs x (omega arith) c.index-corners-corners.is)

pub returns-else-low-eq0 : goal.returns-else-low-eq0
returns-else-low-eq0 c = before_is c.args.corners.now c.args.low c.index-corners-low.result (omega arith) c.requires c.index-corners-low.is
