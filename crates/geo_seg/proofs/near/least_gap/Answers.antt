use Rattle.std.proofs.Common.{◌≡◌}
use Rattle.geo_seg.specs.Gap.{dot_of, cross_of, squared_length}
use Rattle.geo_seg.proofs.Passed.{dot_seen, cross_seen, start_case, end_case, between_case}
use Rattle.geo_seg.proofs.near.least_gap.Goals as goal

pub returns-then-along-le0-clause-least : goal.returns-then-along-le0-clause-least
returns-then-along-le0-clause-least c =
    let u = c.between-way.ensures in
    let w = c.between-from_start.ensures in
    let along : c.dot-along.result ≡ dot_of c.args.p c.args.s = dot_seen _ _ _ _ _ _ _ _ _ u.x u.y w.x w.y c.dot-along.ensures.value in
    let top : c.dot.result ≡ squared_length c.args.s.a c.args.p = dot_seen _ _ _ _ _ _ _ _ _ w.x w.y w.x w.y c.dot.ensures.value in
    start_case c.args.p c.args.s c.dot-along.result c.dot.result along top c.dot-along.ensures.in_range c.dot.ensures.in_range c.if-along-le0.true

pub returns-then-along-length-clause-least : goal.returns-then-along-length-clause-least
returns-then-along-length-clause-least c =
    let u = c.between-way.ensures in
    let w = c.between-from_start.ensures in
    let e = c.between-from_end.ensures in
    let along : c.dot-along.result ≡ dot_of c.args.p c.args.s = dot_seen _ _ _ _ _ _ _ _ _ u.x u.y w.x w.y c.dot-along.ensures.value in
    let length : c.dot-length.result ≡ squared_length c.args.s.a c.args.s.b = dot_seen _ _ _ _ _ _ _ _ _ u.x u.y u.x u.y c.dot-length.ensures.value in
    let top : c.dot-then-along-length.result ≡ squared_length c.args.s.b c.args.p = dot_seen _ _ _ _ _ _ _ _ _ e.x e.y e.x e.y c.dot-then-along-length.ensures.value in
    end_case c.args.p c.args.s c.dot-along.result c.dot-length.result c.dot-then-along-length.result along length top c.dot-along.ensures.in_range c.dot-length.ensures.in_range c.dot-then-along-length.ensures.in_range c.if-along-length.true

pub returns-clause-least : goal.returns-clause-least
returns-clause-least c =
    let u = c.between-way.ensures in
    let w = c.between-from_start.ensures in
    let along : c.dot-along.result ≡ dot_of c.args.p c.args.s = dot_seen _ _ _ _ _ _ _ _ _ u.x u.y w.x w.y c.dot-along.ensures.value in
    let length : c.dot-length.result ≡ squared_length c.args.s.a c.args.s.b = dot_seen _ _ _ _ _ _ _ _ _ u.x u.y u.x u.y c.dot-length.ensures.value in
    let across : c.cross-across.result ≡ cross_of c.args.p c.args.s = cross_seen _ _ _ _ _ _ _ _ _ u.x u.y w.x w.y c.cross-across.ensures.value in
    between_case c.args.p c.args.s c.dot-along.result c.dot-length.result c.cross-across.result c.large_product.result along length across c.dot-along.ensures.in_range c.dot-length.ensures.in_range c.cross-across.ensures.in_range (record { sfits = c.large_product.type_inv }) c.large_product.ensures c.if-along-le0.false c.if-along-length.false
