use Rattle.part_read.proofs.Boxing.{passed_coordinate, box_is}
use Rattle.part_read.proofs.figures.box_corners.Goals as goal

pub returns : goal.returns
returns c =
    let p = c.args.p in
    let q = c.args.q in
    box_is p q _ _ (passed_coordinate q.x q.x_in_range) (passed_coordinate p.y p.y_in_range) (passed_coordinate p.x p.x_in_range) (passed_coordinate q.y q.y_in_range)
