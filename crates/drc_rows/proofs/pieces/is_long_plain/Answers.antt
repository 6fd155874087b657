use Rattle.std.proofs.Common.{◌+◌, ◌-◌, min, length, arith}
use Rattle.drc_rows.proofs.Plain.{own_all, own_both, own_part}
use Rattle.drc_rows.proofs.pieces.is_long_plain.Goals as goal

pub step-preserved : goal.step-preserved
step-preserved c =
    let name = c.args.name.now in
    let to = min (c.step.at + 16) (length name) in
    let from = c.min-from.result in
    own_both name 0 (min c.step.at (length name)) from (from + 16) to (omega arith) (omega arith) c.step.invariant
    (own_part name from 16 ((from + 16) - from) (omega arith) (c.is_step_odd.ensures c.if-is_step_odd.false))

pub returns : goal.returns
returns c = λ _. own_all c.args.name.now (λ k low high. c.step.invariant k low (omega arith))
