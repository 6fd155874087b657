use Rattle.std.proofs.Common.{◌∙◌, ap}
use Rattle.part_read.specs.declared.numbers.RawPoint.{RawPoint}
use Rattle.part_read.specs.OnBoard.{tested, fits_board, point_at}
use Rattle.part_read.proofs.placements.point_stood.Goals as goal

pub returns : goal.returns
returns c = c.point_at.ensures ∙ ap (λ (s : RawPoint). tested (fits_board s) (point_at s)) c.stand.ensures.stood
