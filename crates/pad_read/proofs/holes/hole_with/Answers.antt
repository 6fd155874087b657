use Rattle.std.proofs.Common.{◌∙◌, sym, ap, ℤ, w64, rules}
use mir.Val.{SFits}
use Rattle.plain_types.specs.Lengths.{is_length}
use Rattle.part_read.proofs.Shapes.{is_tested, clean}
use Rattle.pad_read.specs.PadSizes.{least_of}
use Rattle.pad_read.specs.PadOf.{hole_with}
use Rattle.pad_read.proofs.Making.{hole_is}
use Rattle.pad_read.proofs.holes.hole_with.Goals as goal

pub returns : goal.returns
returns c =
    let fits : SFits w64 c.least_of-least.result = search rules in
    let same = clean c.least_of-least.result fits ∙ c.least_of-least.ensures in
    is_tested (is_length (least_of c.args.sizes)) (hole_with c.args.layers c.args.plated c.args.sizes c.args.shape) _
    (λ h. hole_is c.args.layers c.args.plated c.args.sizes c.args.shape _ _ h same)
    (ap (λ (z : ℤ). is_length z) (sym same) ∙ sym c.is_length.ensures.value ∙ c.if-not-is_length.false)
