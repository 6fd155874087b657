use Rattle.std.proofs.Common.{arith}
use Rattle.part_read.proofs.Roots.{one_root, root_most}
use Rattle.part_read.proofs.circles.root.Goals as goal

pub returns-clause-value : goal.returns-clause-value
returns-clause-value c = one_root c.args.square c.isqrt.result c.isqrt.ensures.square_le c.isqrt.ensures.next_square_gt

pub returns-clause-most : goal.returns-clause-most
returns-clause-most c =
    let s = c.isqrt.ensures.square_le in
    root_most c.isqrt.result 3000000000000 (omega (arith, s, c.requires))
