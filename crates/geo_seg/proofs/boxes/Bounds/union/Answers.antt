use Rattle.geo_seg.proofs.Unions.{union_of_sides, union_fits, sides_are}
use Rattle.geo_seg.proofs.boxes.Bounds.union.Goals as goal

pub returns-clause-least : goal.returns-clause-least
returns-clause-least c = union_of_sides c.args.self c.args.other _
    (sides_are c.args.self c.args.other c.to_left.result c.to_right-columns.result c.to_top.result _
    (record { first = c.to_left.ensures.first; second = c.to_left.ensures.second; either = c.to_left.ensures.either }) c.to_left.ensures.others
    (record { first = c.to_right-columns.ensures.first; second = c.to_right-columns.ensures.second; either = c.to_right-columns.ensures.either }) c.to_right-columns.ensures.others
    (record { first = c.to_top.ensures.first; second = c.to_top.ensures.second; either = c.to_top.ensures.either }) c.to_top.ensures.others
    (record { first = c.to_bottom.ensures.first; second = c.to_bottom.ensures.second; either = c.to_bottom.ensures.either }) c.to_bottom.ensures.others)

pub returns-clause-fits : goal.returns-clause-fits
returns-clause-fits c = λ limit f g. union_fits limit c.args.self c.args.other _ f g
    (sides_are c.args.self c.args.other c.to_left.result c.to_right-columns.result c.to_top.result _
    (record { first = c.to_left.ensures.first; second = c.to_left.ensures.second; either = c.to_left.ensures.either }) c.to_left.ensures.others
    (record { first = c.to_right-columns.ensures.first; second = c.to_right-columns.ensures.second; either = c.to_right-columns.ensures.either }) c.to_right-columns.ensures.others
    (record { first = c.to_top.ensures.first; second = c.to_top.ensures.second; either = c.to_top.ensures.either }) c.to_top.ensures.others
    (record { first = c.to_bottom.ensures.first; second = c.to_bottom.ensures.second; either = c.to_bottom.ensures.either }) c.to_bottom.ensures.others)
