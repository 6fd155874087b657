use Rattle.std.proofs.Common.{arith, refl}
use Rattle.ratsnest.proofs.Squares.{square_passed, square_small}
use Rattle.ratsnest.proofs.places.square_apart.Goals as goal

pub overflow_cast-result : goal.overflow_cast-result
overflow_cast-result c =
    rw (square_passed c.args.a c.args.b c.ranges.a c.ranges.b c.requires.a c.requires.b)
    (tt, omega (arith, square_small c.args.a c.args.b c.requires.a c.requires.b))

pub returns-clause-value : goal.returns-clause-value
returns-clause-value c = rw (square_passed c.args.a c.args.b c.ranges.a c.ranges.b c.requires.a c.requires.b) refl

pub returns-clause-bound : goal.returns-clause-bound
returns-clause-bound c =
    rw (square_passed c.args.a c.args.b c.ranges.a c.ranges.b c.requires.a c.requires.b) (square_small c.args.a c.args.b c.requires.a c.requires.b)
