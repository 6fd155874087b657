use Rattle.std.proofs.Common.{◌≤◌, ◌-◌, nat_eq, length, drop, filter, ◌∙◌, ap, arith}
use Rattle.board_items.specs.Boards.{PlainBoard}
use Rattle.board_items.specs.ItemSlots.{unit_items}
use Rattle.board_items.proofs.UnitRows.{as_many, units_same}
use Rattle.board_items.proofs.UnitPlaces.{units_part, part_short, items_part}
use Rattle.board_items.proofs.board.Board.of_unit.Goals as goal

pub places_in-places-requires-clause-few : goal.places_in-places-requires-clause-few
places_in-places-requires-clause-few c =
    let many = as_many c.self.inside.slots.items c.self.inside.units.items c.self.invariant.units_in in
    let last = c.self.invariant.kept.sound.last_id in
    let same = ap length c.deref.ensures.value in
    omega (arith, many, last, same)

pub slice_bounds-result-end : goal.slice_bounds-result-end
slice_bounds-result-end c =
    let many = as_many c.self.inside.slots.items c.self.inside.units.items c.self.invariant.units_in in
    let within = c.places_in-places.ensures.within in
    let same = ap length c.deref.ensures.value in
    let slots = ap length c.deref-2.ensures.value in
    let inside : c.places_in-places.result.end ≤ length c.deref-2.result.now = omega (arith, many, within, same, slots) in
    inside

pub invariant_of-result-clause-spare_capacity : goal.invariant_of-result-clause-spare_capacity
invariant_of-result-clause-spare_capacity c =
    let many = as_many c.self.inside.slots.items c.self.inside.units.items c.self.invariant.units_in in
    let last = c.self.invariant.kept.sound.last_id in
    let ordered = c.places_in-places.ensures.ordered in
    let within = c.places_in-places.ensures.within in
    let same = ap length c.deref.ensures.value in
    let short = part_short (c.places_in-places.result.end - c.places_in-places.result.from) (drop c.places_in-places.result.from c.deref-2.result.now) in
    omega (arith, many, last, ordered, within, same, short)

pub invariant_of-result-clause-units_in : goal.invariant_of-result-clause-units_in
invariant_of-result-clause-units_in c =
    units_part c.places_in-places.result.from (c.places_in-places.result.end - c.places_in-places.result.from) c.deref-2.result.now c.deref-3.result.now
    (units_same c.self.inside.slots.items _ c.self.inside.units.items _ c.self.invariant.units_in c.deref-2.ensures.value c.deref-3.ensures.value)

pub returns-clause-items : goal.returns-clause-items
returns-clause-items c =
    items_part c.args.unit c.places_in-places.result.from c.places_in-places.result.end c.deref-2.result.now c.deref.result.now
    (units_same c.self.inside.slots.items _ c.self.inside.units.items _ c.self.invariant.units_in c.deref-2.ensures.value c.deref.ensures.value) c.places_in-places.ensures
    ∙ ap (unit_items c.args.unit 0) c.deref-2.ensures.value ∙ ap (λ (b : PlainBoard). filter (λ entry. nat_eq entry.1.unit c.args.unit) b.items) c.self.view_is
