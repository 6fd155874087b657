use Rattle.std.proofs.Common.{◌∙◌, sym, w64, rules}
use mir.Val.{SFits}
use Rattle.pad_read.specs.Halves.{fits_half, half_point_at}
use Rattle.part_read.proofs.Shapes.{is_tested, one_point, clean}
use Rattle.pad_read.proofs.halves.half_point.Goals as goal

pub returns : goal.returns
returns c =
    let raw_point = c.args.raw_point in
    let fits_x : SFits w64 raw_point.x = search rules in
    let fits_y : SFits w64 raw_point.y = search rules in
    is_tested (fits_half raw_point) (half_point_at raw_point) _
    (λ h. one_point _ (half_point_at raw_point h) (clean raw_point.x fits_x) (clean raw_point.y fits_y))
    (sym c.fits_half.ensures ∙ c.if-not-fits_half.false)
