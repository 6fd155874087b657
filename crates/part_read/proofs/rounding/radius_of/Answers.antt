use Rattle.std.proofs.Common.{ℤ, ◌∙◌, ap, sym}
use Rattle.plain_types.specs.Lengths.{is_length}
use Rattle.part_read.specs.Figures.{radius_at}
use Rattle.part_read.proofs.Shapes.{is_tested, clean}
use Rattle.part_read.proofs.Boxing.{one_radius}
use Rattle.part_read.proofs.rounding.radius_of.Goals as goal

pub returns : goal.returns
returns c =
    is_tested (is_length c.args.width) (radius_at c.args.width) _
    (λ h. one_radius _ (radius_at c.args.width h) (clean c.args.width c.ranges.width))
    (ap (λ (z : ℤ). is_length z) (sym (clean c.args.width c.ranges.width)) ∙ sym c.is_length.ensures.value ∙ c.if-not-is_length.false)
