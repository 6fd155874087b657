use Rattle.std.proofs.Common.{arith}
use Rattle.std.proofs.lemmas.Int.{ints}
use Rattle.geo_seg.proofs.Shifted.{side_is}
use Rattle.geo_seg.proofs.boxes.Bounds.shifted.Goals as goal

pub returns-clause-left : goal.returns-clause-left
returns-clause-left c = side_is c.in_range.result _ c.args.self.left c.args.by.dx c.in_range.ensures (omega (arith, ints))

pub returns-clause-top : goal.returns-clause-top
returns-clause-top c = side_is c.in_range-2.result _ c.args.self.top c.args.by.dy c.in_range-2.ensures (omega (arith, ints))

pub returns-clause-right : goal.returns-clause-right
returns-clause-right c = side_is c.in_range-3.result _ c.args.self.right c.args.by.dx c.in_range-3.ensures (omega (arith, ints))

pub returns-clause-bottom : goal.returns-clause-bottom
returns-clause-bottom c = side_is c.in_range-4.result _ c.args.self.bottom c.args.by.dy c.in_range-4.ensures (omega (arith, ints))
