use Rattle.std.proofs.Common.{arith, ap, ◌*◌, ◌+◌}
use Rattle.exact_dec.proofs.Digits.{above_zeros, pow10_suc}
use Rattle.exact_dec.proofs.scale.push_zeros.Goals as goal

pub returns-then-n-gt-MOST_WHOLE : goal.returns-then-n-gt-MOST_WHOLE
returns-then-n-gt-MOST_WHOLE c =
    let above = above_zeros (10 * c.loop.n) c.args.before (c.loop.counter + 1) c.args.count (omega arith) (omega (arith, ap (λ x. c.args.before * x) (pow10_suc c.loop.counter))) in
    omega arith

pub loop-preserved : goal.loop-preserved
loop-preserved c = (omega arith, omega (arith, ap (λ x. c.args.before * x) (pow10_suc c.loop.counter)))
