use Rattle.std.proofs.Common.{refl, ◌++◌, append_assoc, codes, decimal, length}
use Rattle.std.proofs.lemmas.Result.{err_from_is_err_and}
use Rattle.board_items.specs.Boards.{item_at}
use Rattle.net_groups.specs.ConnectedClasses.{least}
use Rattle.drc_rows.specs.Report.{text_of}
use Rattle.drc_rows.proofs.Lines.{Puts-then, Puts-cut}
use Rattle.drc_rows.proofs.net.push_group.Goals as goal

pub returns-in_err-push_number : goal.returns-in_err-push_number
returns-in_err-push_number g c =
    let p = err_from_is_err_and c.from_residual.result c.from_residual.ensures.1 in
    let members = c.args.members.now in
    let count = codes "group of " ++ decimal (length members) ++ codes ": " in
    let first = text_of (item_at c.args.board.now.items (least members)) in
    Puts-cut _ _ _ _ _ count (first ++ codes "\n") _ _ _ _ _ _ p.1 (append_assoc count first (codes "\n")) c.in_err-push_number.ensures

pub returns-in_err-push_item_of : goal.returns-in_err-push_item_of
returns-in_err-push_item_of g c =
    let p = err_from_is_err_and c.from_residual-in_err-push_item_of.result c.from_residual-in_err-push_item_of.ensures.1 in
    let members = c.args.members.now in
    let count = codes "group of " ++ decimal (length members) ++ codes ": " in
    let first = text_of (item_at c.args.board.now.items (least members)) in
    Puts-cut _ _ _ _ _ (count ++ first) (codes "\n") _ _ _ _ _ _ p.1 refl
    (Puts-then _ _ _ _ _ _ _ _ _ _ _ _ _ c.in_ok-push_number.ensures c.in_err-push_item_of.ensures)

pub returns : goal.returns
returns g c = Puts-then _ _ _ _ _ _ _ _ _ _ _ _ _ (Puts-then _ _ _ _ _ _ _ _ _ _ _ _ _ c.in_ok-push_number.ensures c.in_ok-push_item_of.ensures) c.push.ensures
