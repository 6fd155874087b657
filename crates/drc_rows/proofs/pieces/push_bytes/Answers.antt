use Rattle.std.proofs.Common.{sym, arith}
use Rattle.std.proofs.lemmas.Result.{err_from_is_err_and}
use Rattle.drc_rows.specs.Buffer.{escaped_byte}
use Rattle.drc_rows.proofs.Lines.{Puts-then, Puts-cut, Puts-text, flat_more, flat_rest}
use Rattle.drc_rows.proofs.pieces.push_bytes.Goals as goal

pub returns-in_err-push_byte : goal.returns-in_err-push_byte
returns-in_err-push_byte g c =
    let p = err_from_is_err_and c.from_residual.result c.from_residual.ensures.1 in
    Puts-cut _ _ _ _ _ _ _ _ _ _ _ _ _ p.1 (flat_rest escaped_byte c.args.name.now c.loop-byte.byte-index 0 (omega arith))
    (Puts-then _ _ _ _ _ _ _ _ _ _ _ _ _ c.loop-byte.invariant c.in_err-push_byte.ensures)

pub loop-byte-preserved : goal.loop-byte-preserved
loop-byte-preserved g c =
    Puts-text _ _ _ _ _ _ _ _ _ (sym (flat_more escaped_byte c.args.name.now c.loop-byte.byte-index 0 (omega arith)))
    (Puts-then _ _ _ _ _ _ _ _ _ _ _ _ _ c.loop-byte.invariant c.in_ok-push_byte.ensures)
