use Rattle.std.proofs.Common.{◌≡◌, ◌<◌, ◌∙◌, ap, sym, subst, length, get_or, Option, None, Some, arith}
use Rattle.one_item.specs.declared.item.Item.{Item}
use Rattle.board_items.specs.Boards.{PlainBoard, item_at}
use Rattle.board_items.specs.ItemSlots.{present, IsUnitIn}
use Rattle.board_items.proofs.SlotLists.{slot_is}
use Rattle.board_items.proofs.UnitRows.{as_many, unit_in}
use Rattle.board_items.proofs.board.Board.unit_at.Goals as goal

pub index-requires : goal.index-requires
index-requires c =
    let lt : c.args.id < length c.self.inside.slots.items = subst (λ (b : PlainBoard). c.args.id < b.next_id) (sym c.self.view_is) c.requires in
    let many = as_many c.self.inside.slots.items c.self.inside.units.items c.self.invariant.units_in in
    let ok = c.self.inside.units.ok.0 in
    omega (arith, lt, many, ok)

pub returns-clause-own : goal.returns-clause-own
returns-clause-own c = λ item e.
    let lt : c.args.id < length c.self.inside.slots.items = subst (λ (b : PlainBoard). c.args.id < b.next_id) (sym c.self.view_is) c.requires in
    let here : item_at (present 0 c.self.inside.slots.items) c.args.id ≡ Some item = ap (λ (b : PlainBoard). item_at b.items c.args.id) c.self.view_is ∙ e in
    let at : get_or c.self.inside.slots.items c.args.id None ≡ Some item = slot_is c.args.id c.self.inside.slots.items None lt ∙ here in
    subst (λ (s : Option Item). IsUnitIn s (get_or c.self.inside.units.items c.args.id c.index.result.now)) at
    (unit_in c.self.inside.slots.items c.self.inside.units.items c.args.id None c.index.result.now c.self.invariant.units_in lt) ∙ sym c.index.ensures
