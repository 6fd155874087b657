use Rattle.std.proofs.Common.{◌+◌, ◌-◌, length, arith}
use Rattle.std.proofs.lemmas.Slice.{drop-put_mid}
use Rattle.exact_dec.proofs.written.put.Goals as goal

pub returns-clause-rest : goal.returns-clause-rest
returns-clause-rest c = λ k h. drop-put_mid c.args.at ((c.args.at + length c.args.piece.now) - c.args.at) c.args.out.now c.copy_from_slice.new.self k (omega arith) (omega arith) (omega (arith, c.copy_from_slice.ensures.len))
