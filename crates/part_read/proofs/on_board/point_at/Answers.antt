use Rattle.std.proofs.Common.{◌∙◌, sym}
use Rattle.part_read.specs.OnBoard.{fits_board, point_at}
use Rattle.part_read.proofs.Shapes.{is_tested, one_point}
use Rattle.part_read.proofs.on_board.point_at.Goals as goal

pub returns-then-fits_board : goal.returns-then-fits_board
returns-then-fits_board c =
    is_tested (fits_board c.args.raw_point) (point_at c.args.raw_point) c.doubled.result
    (λ h. one_point c.doubled.result (point_at c.args.raw_point h) c.doubled.ensures.x c.doubled.ensures.y) (sym c.fits_board.ensures ∙ c.if-fits_board.true)
