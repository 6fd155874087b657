use Rattle.pad_read.proofs.Corners.{low_is}
use Rattle.pad_read.proofs.rounded_rects.low_corner.Goals as goal

pub returns : goal.returns
returns c = low_is c.args.at c.args.rounded_rect c.requires.at c.requires.small
