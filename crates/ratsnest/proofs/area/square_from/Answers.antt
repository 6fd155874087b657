use Rattle.std.proofs.Common.{◌≡◌, ◌≤◌, ◌-ℤ◌, unsigned_abs, arith, mul-le-mul}
use Rattle.std.proofs.lemmas.Int.{ints}
use Rattle.int_algebra.proofs.Scalars.{passed, passed_is}
use Rattle.ratsnest.proofs.area.square_from.Goals as goal

pub returns : goal.returns
returns c = λ a h.
    let px : passed c.args.anchor.x ≡ c.args.anchor.x = passed_is c.args.anchor.x (omega (arith, ints, c.args.anchor.x_in_range.from, c.args.anchor.x_in_range.to)) in
    let py : passed c.args.anchor.y ≡ c.args.anchor.y = passed_is c.args.anchor.y (omega (arith, ints, c.args.anchor.y_in_range.from, c.args.anchor.y_in_range.to)) in
    let x : c.gap.result ≤ unsigned_abs (c.args.anchor.x -ℤ a.x) = rw px at (c.gap.ensures.least a.x h.0) in
    let y : c.gap-2.result ≤ unsigned_abs (c.args.anchor.y -ℤ a.y) = rw py at (c.gap-2.ensures.least a.y h.1) in
    omega (arith, mul-le-mul x x, mul-le-mul y y, c.squared.ensures.value, c.squared-2.ensures.value)
