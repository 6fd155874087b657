use Rattle.std.proofs.Common.{refl}
use Rattle.one_item.proofs.Around.{taken}
use Rattle.one_item.proofs.extents.around.Goals as goal

pub loop-part-preserved : goal.loop-part-preserved
loop-part-preserved c = (
  c.grown.ensures.fits,
  λ before h.
      taken before c.args.parts.now c.loop-part.part-index c.part-item.result _ c.loop-part-test.true c.part-item.is
      (c.grown.ensures.grown _ c.part-item.result refl (c.loop-part.invariant.1 before h)),
)
