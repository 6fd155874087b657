use Rattle.std.proofs.Common.{◌≡◌, true, IfSome, ◌∙◌, ap, subst}
use Rattle.board_items.specs.ItemSlots.{present}
use Rattle.std.specs.Prelude.{length}
use Rattle.board_items.specs.Boards.{PlainBoard, item_at, is_admitted}
use Rattle.board_items.proofs.Admitted.{admitted_found}
use Rattle.board_items.proofs.board.Board.get.Goals as goal

pub returns-clause-admitted : goal.returns-clause-admitted
returns-clause-admitted c =
    let before : PlainBoard = record { copper = c.self.inside.copper; nets = c.self.inside.names.entries; items = present 0 c.self.inside.slots.items; next_id = length c.self.inside.slots.items; next_unit = c.self.inside.next_unit } in
    subst (λ (b : PlainBoard). IfSome c.item_at.result (λ item. is_admitted b item.now ≡ true)) c.self.view_is
    (admitted_found before c.args.id c.item_at.result before.items c.self.invariant.kept.sound.admitted
    (c.item_at.ensures ∙ ap (λ xs. item_at (present 0 xs) c.args.id) c.deref.ensures.value))
