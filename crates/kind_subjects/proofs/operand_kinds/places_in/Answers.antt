use Rattle.std.proofs.Common.{arith}
use Rattle.kind_subjects.proofs.Unfaced.{place_in}
use Rattle.kind_subjects.proofs.operand_kinds.places_in.Goals as goal

pub returns-clause-each : goal.returns-clause-each
returns-clause-each c = λ layer h. place_in c.args.layers.bits layer (omega arith) h
