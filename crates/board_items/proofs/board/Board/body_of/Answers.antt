use Rattle.std.proofs.Common.{◌≡◌, ◌<◌, ◌∙◌, ap, sym, subst, ℕ, List, length, get_or, Option, None, Some}
use Rattle.one_item.specs.declared.item.Item.{Item}
use Rattle.board_items.specs.Boards.{item_at}
use Rattle.board_items.specs.ItemSlots.{present, IsUnitIn}
use Rattle.board_items.proofs.SlotLists.{in_row, slot_is}
use Rattle.board_items.proofs.UnitRows.{unit_in}
use Rattle.board_items.proofs.board.Board.body_of.Goals as goal

pub last_body-requires-clause-within : goal.last_body-requires-clause-within
last_body-requires-clause-within c =
    let found : item_at (present 0 c.self.inside.slots.items) c.args.note ≡ Some c.in_ok-item.item.now = ap (λ xs. item_at (present 0 xs) c.args.note) (sym c.deref.ensures.value) ∙ sym c.in_ok-item.ensures in
    subst (λ (ss : List (Option Item)). c.args.note < length ss) (sym c.deref-2.ensures.value) (in_row c.args.note c.self.inside.slots.items c.in_ok-item.item.now found)

pub last_body-requires-clause-own : goal.last_body-requires-clause-own
last_body-requires-clause-own c =
    let found : item_at (present 0 c.self.inside.slots.items) c.args.note ≡ Some c.in_ok-item.item.now = ap (λ xs. item_at (present 0 xs) c.args.note) (sym c.deref.ensures.value) ∙ sym c.in_ok-item.ensures in
    let lt = in_row c.args.note c.self.inside.slots.items c.in_ok-item.item.now found in
    let at : get_or c.self.inside.slots.items c.args.note None ≡ Some c.in_ok-item.item.now = slot_is c.args.note c.self.inside.slots.items None lt ∙ found in
    ap (λ (us : List ℕ). get_or us c.args.note 0) c.deref-3.ensures.value
    ∙ sym (subst (λ (s : Option Item). IsUnitIn s (get_or c.self.inside.units.items c.args.note 0)) at (unit_in c.self.inside.slots.items c.self.inside.units.items c.args.note None 0 c.self.invariant.units_in lt))
