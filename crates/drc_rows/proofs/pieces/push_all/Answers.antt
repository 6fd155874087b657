use Rattle.std.proofs.Common.{sym, [], List, ℕ, Bor, arith}
use Rattle.std.proofs.lemmas.Result.{err_from_is_err_and}
use Rattle.drc_rows.proofs.Lines.{Puts-then, Puts-cut, Puts-text, flat_more, flat_rest}
use Rattle.drc_rows.proofs.pieces.push_all.Goals as goal

pub returns-in_err-push : goal.returns-in_err-push
returns-in_err-push g c =
    let p = err_from_is_err_and c.from_residual.result c.from_residual.ensures.1 in
    Puts-cut _ _ _ _ _ _ _ _ _ _ _ _ _ p.1 (flat_rest (λ (q : Bor (List ℕ)). q.now) c.args.pieces.now c.loop-piece.piece-index (record { ref_ptr = (0, 0); now = [] }) (omega arith))
    (Puts-then _ _ _ _ _ _ _ _ _ _ _ _ _ c.loop-piece.invariant c.in_err-push.ensures)

pub loop-piece-preserved : goal.loop-piece-preserved
loop-piece-preserved g c =
    Puts-text _ _ _ _ _ _ _ _ _ (sym (flat_more (λ (q : Bor (List ℕ)). q.now) c.args.pieces.now c.loop-piece.piece-index (record { ref_ptr = (0, 0); now = [] }) (omega arith)))
    (Puts-then _ _ _ _ _ _ _ _ _ _ _ _ _ c.loop-piece.invariant c.in_ok-push.ensures)
