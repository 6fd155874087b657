use Rattle.std.proofs.Common.{refl, ◌++◌, append_assoc, codes}
use Rattle.std.proofs.lemmas.Result.{err_from_is_err_and}
use Rattle.drc_rows.specs.NetBlock.{anchor_text}
use Rattle.drc_rows.proofs.Lines.{Puts-then, Puts-cut}
use Rattle.drc_rows.proofs.net.push_ends.Goals as goal

pub returns-in_err-push_anchor : goal.returns-in_err-push_anchor
returns-in_err-push_anchor g c =
    let p = err_from_is_err_and c.from_residual.result c.from_residual.ensures.1 in
    let first = anchor_text c.args.board.now c.args.first in
    let second = anchor_text c.args.board.now c.args.second in
    Puts-cut _ _ _ _ _ first (codes " | " ++ second) _ _ _ _ _ _ p.1 (append_assoc first (codes " | ") second) c.in_err-push_anchor.ensures

pub returns-in_err-push : goal.returns-in_err-push
returns-in_err-push g c =
    let p = err_from_is_err_and c.from_residual-in_err-push.result c.from_residual-in_err-push.ensures.1 in
    let first = anchor_text c.args.board.now c.args.first in
    let second = anchor_text c.args.board.now c.args.second in
    Puts-cut _ _ _ _ _ (first ++ codes " | ") second _ _ _ _ _ _ p.1 refl
    (Puts-then _ _ _ _ _ _ _ _ _ _ _ _ _ c.in_ok-push_anchor.ensures c.in_err-push.ensures)

pub returns : goal.returns
returns g c = Puts-then _ _ _ _ _ _ _ _ _ _ _ _ _ (Puts-then _ _ _ _ _ _ _ _ _ _ _ _ _ c.in_ok-push_anchor.ensures c.in_ok-push.ensures) c.push_anchor-2.ensures
