use Rattle.std.proofs.Common.{ℕ, List, IfSome, take, drop, subst, sym}
use Rattle.geo_seg.specs.declared.frames.Frame.{Frame}
use Rattle.geo_seg.specs.declared.runs.TheConstants.{FOURTH_RUN}
use Rattle.geo_seg.specs.Inside.{outline}
use Rattle.geo_seg.specs.RunBoxes.{AreRuns, IsRunBox}
use Rattle.geo_seg.proofs.runs.Indexed.run_box.Goals as goal

pub returns-in-4096 : goal.returns-in-4096
returns-in-4096 c =
    let es = outline c.args.self.now.corners.items in
    subst (λ (z : ℕ). IfSome c.at-in-4096.result (λ b. IsRunBox (take z (drop c.args.low es)) b)) (sym c.in-4096.is)
    (c.at-in-4096.ensures es (subst (λ (z : List Frame). AreRuns FOURTH_RUN z es) (sym c.deref-in-4096.ensures.value) c.requires.fourth))
