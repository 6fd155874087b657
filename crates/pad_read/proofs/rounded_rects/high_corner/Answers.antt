use Rattle.pad_read.proofs.Corners.{high_is}
use Rattle.pad_read.proofs.rounded_rects.high_corner.Goals as goal

pub returns : goal.returns
returns c = high_is c.args.at c.args.rounded_rect c.requires.at c.requires.small
