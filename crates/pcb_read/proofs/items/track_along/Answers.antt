use Rattle.std.proofs.Common.{w64, rules}
use mir.Val.{SFits}
use Rattle.part_read.proofs.Shapes.{clean}
use Rattle.pcb_read.proofs.Making.{track_from, track_admitted}
use Rattle.pcb_read.proofs.items.track_along.Goals as goal

pub returns-clause-item : goal.returns-clause-item
returns-clause-item c =
    let strip = c.args.strip in
    let fit_x : SFits w64 strip.a.x = search rules in
    let fit_y : SFits w64 strip.a.y = search rules in
    let fit_width : SFits w64 strip.width = search rules in
    track_from strip c.args.origin c.in_ok-shape.shape _ _ _ _ _ _ (clean strip.a.x fit_x) (clean strip.a.y fit_y) (clean strip.width fit_width) c.one_part.ensures c.in_ok-shape.ensures

pub returns-clause-admitted : goal.returns-clause-admitted
returns-clause-admitted c board declared on =
    let strip = c.args.strip in
    let fit_x : SFits w64 strip.a.x = search rules in
    let fit_y : SFits w64 strip.a.y = search rules in
    track_admitted board strip c.args.origin.net c.args.origin.layers c.in_ok-shape.shape _ _ _
    (clean strip.a.x fit_x) (clean strip.a.y fit_y) c.one_part.ensures c.in_ok-shape.ensures declared on
