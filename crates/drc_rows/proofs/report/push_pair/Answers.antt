use Rattle.std.proofs.Common.{refl, ap, ◌++◌, append_assoc, codes}
use Rattle.std.proofs.lemmas.Result.{err_from_is_err_and}
use Rattle.board_items.specs.Boards.{item_at}
use Rattle.drc_rows.specs.Report.{text_of, single_text}
use Rattle.drc_rows.proofs.Lines.{Puts-then, Puts-cut, Puts-text}
use Rattle.drc_rows.proofs.report.push_pair.Goals as goal

pub returns-in_err-push_first : goal.returns-in_err-push_first
returns-in_err-push_first g c =
    let p = err_from_is_err_and c.from_residual.result c.from_residual.ensures.1 in
    let first = single_text c.args.board.now c.args.row.now in
    let second = text_of (item_at c.args.board.now.items c.args.row.now.second) in
    Puts-cut _ _ _ _ _ first (codes " | " ++ second) _ _ _ _ _ _ p.1 (append_assoc first (codes " | ") second) c.in_err-push_first.ensures

pub returns-in_err-push : goal.returns-in_err-push
returns-in_err-push g c =
    let p = err_from_is_err_and c.from_residual-in_err-push.result c.from_residual-in_err-push.ensures.1 in
    let first = single_text c.args.board.now c.args.row.now in
    let second = text_of (item_at c.args.board.now.items c.args.row.now.second) in
    Puts-cut _ _ _ _ _ (first ++ codes " | ") second _ _ _ _ _ _ p.1 refl (Puts-then _ _ _ _ _ _ _ _ _ _ _ _ _ c.in_ok-push_first.ensures c.in_err-push.ensures)

pub returns : goal.returns
returns g c =
    let two = ap (λ id. text_of (item_at c.args.board.now.items id)) c.second.ensures.value in
    Puts-then _ _ _ _ _ _ _ _ _ _ _ _ _ (Puts-then _ _ _ _ _ _ _ _ _ _ _ _ _ c.in_ok-push_first.ensures c.in_ok-push.ensures)
    (Puts-text _ _ _ _ _ _ _ _ _ two c.push_item_of.ensures)
