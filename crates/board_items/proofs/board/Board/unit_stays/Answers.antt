use Rattle.std.proofs.Common.{◌≡◌, true, List, Option, All, length, sym, ◌∙◌, ap, subst, arith}
use Rattle.std.specs.List.{list_all}
use Rattle.int_algebra.proofs.Scalars.{passed, cleaned}
use Rattle.one_item.specs.declared.item.Item.{Item}
use Rattle.board_items.specs.Boards.{PlainBoard}
use Rattle.board_items.specs.UnitMoves.{unit_stays}
use Rattle.board_items.specs.ItemSlots.{present, is_slot_on_board, slot_stays}
use Rattle.board_items.proofs.SlotLists.{stays_slots}
use Rattle.board_items.proofs.Moving.{on_board}
use Rattle.board_items.proofs.UnitRows.{as_many, units_same}
use Rattle.board_items.proofs.board.Board.unit_stays.Goals as goal

pub places_in-places-requires-clause-few : goal.places_in-places-requires-clause-few
places_in-places-requires-clause-few c =
    let many = as_many c.self.inside.slots.items c.self.inside.units.items c.self.invariant.units_in in
    let last = c.self.invariant.kept.sound.last_id in
    let same = ap length c.deref.ensures.value in
    omega (arith, many, last, same)

pub slots_stay-requires-clause-on_board : goal.slots_stay-requires-clause-on_board
slots_stay-requires-clause-on_board c =
    let before : PlainBoard = record { copper = c.self.inside.copper; nets = c.self.inside.names.entries; items = present 0 c.self.inside.slots.items; next_id = length c.self.inside.slots.items; next_unit = c.self.inside.next_unit } in
    subst (λ (xs : List (Option Item)). All (λ s. is_slot_on_board s ≡ true) xs) (sym c.deref-2.ensures.value) (on_board before 0 c.self.inside.slots.items c.self.invariant.kept.sound.admitted)

pub returns : goal.returns
returns c =
    sym (ap (λ (b : PlainBoard). unit_stays c.args.unit c.args.dx c.args.dy b.items) (sym c.self.view_is) ∙ stays_slots c.args.unit c.args.dx c.args.dy 0 c.self.inside.slots.items
    ∙ ap (list_all (λ slot. slot_stays c.args.unit c.args.dx c.args.dy slot)) (sym c.deref-2.ensures.value)
    ∙ cleaned (λ x. list_all (λ slot. slot_stays c.args.unit x c.args.dy slot) c.deref-2.result.now ≡ c.slots_stay.result) c.args.dx c.ranges.dx
    (cleaned (λ y. list_all (λ slot. slot_stays c.args.unit (passed c.args.dx) y slot) c.deref-2.result.now ≡ c.slots_stay.result) c.args.dy c.ranges.dy (sym c.slots_stay.ensures)))

pub slots_stay-requires-clause-units : goal.slots_stay-requires-clause-units
slots_stay-requires-clause-units c = units_same c.self.inside.slots.items _ c.self.inside.units.items _ c.self.invariant.units_in c.deref-2.ensures.value c.deref-3.ensures.value
