use Rattle.std.proofs.Common.{ℤ}
use Rattle.geo_seg.specs.Boxes.{AreClear}
use Rattle.geo_seg.proofs.Passed.{at_reach}
use Rattle.geo_poly.proofs.RunLemmas.{clear_held}
use Rattle.geo_poly.proofs.walks.is_run_clear.Goals as goal

pub returns-in-Some : goal.returns-in-Some
returns-in-Some c =
    let b = c.in-Some.b in let near = c.args.near in
    λ t. clear_held b near c.args.d _ ((at_reach (λ (z : ℤ). AreClear b near z) c.args.d _ c.requires.range.from c.requires.range.to c.is_clear.ensures).0 t) c.in-Some.ensures.holds
