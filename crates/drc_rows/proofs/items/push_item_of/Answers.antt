use Rattle.std.proofs.Common.{◌≡◌, true, subst, Option, IfSome}
use denote.Ref.{Bor}
use Rattle.one_item.specs.declared.item.Item.{Item}
use Rattle.board_items.specs.Boards.{is_admitted}
use Rattle.drc_rows.proofs.Scalars.{on_board}
use Rattle.drc_rows.proofs.items.push_item_of.Goals as goal

pub push_item-requires : goal.push_item-requires
push_item-requires g c =
    let Admitted = λ (found : Option (Bor Item)). IfSome found (λ item. is_admitted c.args.board.now item.now ≡ true) in
    on_board c.args.board.now c.unwrap.result.now (subst Admitted c.unwrap.ensures c.get.ensures.admitted)
