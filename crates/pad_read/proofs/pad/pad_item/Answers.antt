use Rattle.std.proofs.Common.{◌∙◌, sym, w64, rules}
use mir.Val.{SFits}
use Rattle.part_read.proofs.Shapes.{is_tested, clean}
use Rattle.pad_read.specs.PadOf.{local_fits, pad_item}
use Rattle.pad_read.proofs.Making.{pad_is}
use Rattle.pad_read.proofs.pad.pad_item.Goals as goal

pub returns : goal.returns
returns c =
    let at = c.args.at in
    let fits_x : SFits w64 at.x = search rules in
    let fits_y : SFits w64 at.y = search rules in
    is_tested (local_fits c.args.label.local) (pad_item c.args.label at c.args.copper c.args.hole) _
    (λ h. pad_is c.args.label c.args.copper c.args.hole _ _ _ _ _ at h c.in-Ok.ensures (clean at.x fits_x) (clean at.y fits_y))
    (sym c.local_fits.ensures ∙ c.if-not-local_fits.false)
