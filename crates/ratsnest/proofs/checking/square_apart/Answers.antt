use Rattle.std.proofs.Common.{rules, ◌≡◌, ◌-ℤ◌, unsigned_abs}
use Rattle.ratsnest.proofs.Squares.{square_small}
use Rattle.ratsnest.proofs.checking.square_apart.Goals as goal

pub returns-clause-bound : goal.returns-clause-bound
returns-clause-bound c =
    let e : c.abs_diff-apart.result ≡ unsigned_abs (c.args.a -ℤ c.args.b) = search rules in
    rw e (square_small c.args.a c.args.b c.requires.a c.requires.b)
