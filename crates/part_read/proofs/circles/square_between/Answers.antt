use Rattle.std.proofs.Common.{◌≤◌, arith}
use Rattle.std.proofs.lemmas.Int.{ints}
use Rattle.part_read.proofs.Roots.{squares_most}
use Rattle.part_read.proofs.circles.square_between.Goals as goal

pub overflow_add-result : goal.overflow_add-result
overflow_add-result c =
    let ax = c.requires.a.x in
    let ay = c.requires.a.y in
    let bx = c.requires.b.x in
    let by = c.requires.b.y in
    let dx : c.from-dx.result ≤ 2000000000000 = omega (arith, ints, c.abs_diff.ensures, c.from-dx.ensures, ax, bx) in
    let dy : c.from-dy.result ≤ 2000000000000 = omega (arith, ints, c.abs_diff-2.ensures, c.from-dy.ensures, ay, by) in
    let most = squares_most c.from-dx.result c.from-dy.result dx dy in
    record { fits = omega (arith, most) }

pub returns-clause-most : goal.returns-clause-most
returns-clause-most c =
    let ax = c.requires.a.x in
    let ay = c.requires.a.y in
    let bx = c.requires.b.x in
    let by = c.requires.b.y in
    let dx : c.from-dx.result ≤ 2000000000000 = omega (arith, ints, c.abs_diff.ensures, c.from-dx.ensures, ax, bx) in
    let dy : c.from-dy.result ≤ 2000000000000 = omega (arith, ints, c.abs_diff-2.ensures, c.from-dy.ensures, ay, by) in
    squares_most c.from-dx.result c.from-dy.result dx dy
