use Rattle.std.proofs.Common.{◌+◌, sym, subst, arith}
use Rattle.std.proofs.lemmas.Int.{ints}
use Rattle.part_read.specs.declared.numbers.RawPoint.{RawPoint}
use Rattle.part_read.specs.Placements.{IsRawPointWithin}
use Rattle.part_read.proofs.Standing.{stand_is, stood_within, in_x, in_y}
use Rattle.part_read.proofs.placements.stand.Goals as goal

pub returns-clause-stood : goal.returns-clause-stood
returns-clause-stood c = stand_is c.args.placement c.args.raw_point c.turn-x.result c.requires.at c.requires.raw_point c.turn-x.ensures

pub returns-clause-within : goal.returns-clause-within
returns-clause-within c most h =
    subst (λ (s : RawPoint). IsRawPointWithin (most + 1000000000000) s) (sym (stand_is c.args.placement c.args.raw_point c.turn-x.result c.requires.at c.requires.raw_point c.turn-x.ensures))
    (stood_within c.args.placement c.args.raw_point most 1000000000000 h c.requires.raw_point)

pub turn-x-requires-clause-quarter : goal.turn-x-requires-clause-quarter
turn-x-requires-clause-quarter c = omega (arith, c.requires.quarter)

pub turn-x-requires-clause-x : goal.turn-x-requires-clause-x
turn-x-requires-clause-x c = omega (arith, ints, c.requires.raw_point.x)

pub turn-x-requires-clause-y : goal.turn-x-requires-clause-y
turn-x-requires-clause-y c = omega (arith, ints, c.requires.raw_point.y)

pub overflow_add-result : goal.overflow_add-result
overflow_add-result c = let near = in_x c.args.placement c.args.raw_point c.turn-x.result c.requires.at c.requires.raw_point c.turn-x.ensures in omega (arith, ints, c.requires.at.x, near)

pub overflow_add-result-2 : goal.overflow_add-result-2
overflow_add-result-2 c = let near = in_y c.args.placement c.args.raw_point c.turn-x.result c.requires.at c.requires.raw_point c.turn-x.ensures in omega (arith, ints, c.requires.at.y, near)
