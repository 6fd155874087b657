use Rattle.std.proofs.Common.{w64, rules}
use mir.Val.{SFits}
use Rattle.part_read.proofs.Shapes.{clean}
use Rattle.part_read.proofs.Plain.{plain_is}
use Rattle.part_read.proofs.graphics.plain_item.Goals as goal

pub returns : goal.returns
returns c h =
    let fits_x : SFits w64 c.args.at.x = search rules in
    let fits_y : SFits w64 c.args.at.y = search rules in
    plain_is c.args.name c.args.unit c.args.net c.args.copper c.args.what _ _ _ _ c.args.at h (clean c.args.at.x fits_x) (clean c.args.at.y fits_y)
