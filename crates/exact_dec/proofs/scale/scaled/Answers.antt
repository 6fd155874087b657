use Rattle.std.proofs.Common.{arith, ◌<◌}
use Rattle.std.proofs.lemmas.Grind.{common_steps}
use Rattle.exact_dec.specs.Decimal.{number}
use Rattle.exact_dec.proofs.Digits.{number_short}
use Rattle.exact_dec.proofs.scale.scaled.Goals as goal

pub unwrap-by-requires : goal.unwrap-by-requires
unwrap-by-requires c =
    let short : number c.args.parts.now.exponent.now < 1000 = number_short c.args.parts.now.exponent.now 3 c.requires.digits.exponent c.requires.short in
    grind (arith, common_steps)
