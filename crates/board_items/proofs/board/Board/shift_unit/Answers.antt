use Rattle.std.proofs.Common.{◌≡◌, true, List, Option, All, length, refl, sym, ◌∙◌, ap, subst, arith}
use Rattle.std.specs.List.{AllZip}
use Rattle.std.specs.Vec.{with_items}
use Rattle.int_algebra.proofs.Scalars.{passed, cleaned}
use Rattle.one_item.specs.declared.item.Item.{Item}
use Rattle.board_items.specs.Boards.{PlainBoard}
use Rattle.board_items.specs.UnitMoves.{unit_stays, IsMoved, HaveFirstPoints}
use Rattle.board_items.specs.ItemSlots.{present, is_slot_on_board, IsMovedSlot}
use Rattle.board_items.proofs.SlotLists.{points_moved}
use Rattle.board_items.proofs.Moving.{on_board, stays_passed, kept_moved, board_moved, notes_moved}
use Rattle.board_items.proofs.TagRows.{tags_moved}
use Rattle.board_items.proofs.UnitRows.{as_many, units_moved, units_same}
use Rattle.board_items.proofs.board.Board.shift_unit.Goals as goal

pub places_in-places-requires-clause-few : goal.places_in-places-requires-clause-few
places_in-places-requires-clause-few c =
    let many = as_many c.self.inside.slots.items c.self.inside.units.items c.self.invariant.units_in in
    let last = c.self.invariant.kept.sound.last_id in
    let same = ap length c.deref.ensures.value in
    omega (arith, many, last, same)

pub shift_slots-requires-clause-on_board : goal.shift_slots-requires-clause-on_board
shift_slots-requires-clause-on_board c =
    let before : PlainBoard = record { copper = c.self.inside.copper; nets = c.self.inside.names.entries; items = present 0 c.self.inside.slots.items; next_id = length c.self.inside.slots.items; next_unit = c.self.inside.next_unit } in
    subst (λ (xs : List (Option Item)). All (λ s. is_slot_on_board s ≡ true) xs) (sym c.deref_mut.ensures.value) (on_board before 0 c.self.inside.slots.items c.self.invariant.kept.sound.admitted)

pub shift_slots-requires-clause-units : goal.shift_slots-requires-clause-units
shift_slots-requires-clause-units c = units_same c.self.inside.slots.items _ c.self.inside.units.items _ c.self.invariant.units_in c.deref_mut.ensures.value c.deref-2.ensures.value

pub shift_slots-requires-clause-stays : goal.shift_slots-requires-clause-stays
shift_slots-requires-clause-stays c =
    stays_passed c.args.unit c.args.dx c.args.dy _ c.self.inside.slots.items c.ranges.dx c.ranges.dy c.deref_mut.ensures.value
    (ap (λ (b : PlainBoard). unit_stays c.args.unit c.args.dx c.args.dy b.items) c.self.view_is ∙ c.requires)

pub invariant_of-self : goal.invariant_of-self
invariant_of-self c =
    let before : PlainBoard = record { copper = c.self.inside.copper; nets = c.self.inside.names.entries; items = present 0 c.self.inside.slots.items; next_id = length c.self.inside.slots.items; next_unit = c.self.inside.next_unit } in
    record {
      kept = kept_moved before c.args.unit _ _ c.self.inside.slots c.deref_mut.result.now c.deref_mut.result.now c.shift_slots.new.slots c.self.inside.marks.items c.self.inside.of_nets.items c.self.inside.live c.self.invariant.kept refl refl c.deref_mut.ensures.value c.deref_mut.ensures.value
          (omega arith) (stays_passed c.args.unit c.args.dx c.args.dy _ c.self.inside.slots.items c.ranges.dx c.ranges.dy c.deref_mut.ensures.value
          (ap (λ (b : PlainBoard). unit_stays c.args.unit c.args.dx c.args.dy b.items) c.self.view_is ∙ c.requires)) c.shift_slots.ensures;
      notes = notes_moved before.items c.args.unit _ _ c.self.inside.slots c.deref_mut.result.now c.shift_slots.new.slots c.self.inside.notes.items c.self.invariant.notes refl c.deref_mut.ensures.value (omega arith) c.shift_slots.ensures;
      rise = c.self.invariant.rise;
      tags_in = tags_moved c.args.unit _ _ c.self.inside.slots c.deref_mut.result.now c.shift_slots.new.slots c.self.inside.tags.items c.self.invariant.tags_in c.deref_mut.ensures.value (omega arith) c.shift_slots.ensures;
      units_in = units_moved c.args.unit _ _ c.self.inside.slots c.deref_mut.result.now c.shift_slots.new.slots c.self.inside.units.items c.self.invariant.units_in c.deref_mut.ensures.value (omega arith) c.shift_slots.ensures;
    }

pub returns-clause-moved : goal.returns-clause-moved
returns-clause-moved c =
    let before : PlainBoard = record { copper = c.self.inside.copper; nets = c.self.inside.names.entries; items = present 0 c.self.inside.slots.items; next_id = length c.self.inside.slots.items; next_unit = c.self.inside.next_unit } in
    subst (λ (b : PlainBoard). IsMoved c.args.unit c.args.dx c.args.dy b (record before { items = present 0 (with_items c.self.inside.slots c.shift_slots.new.slots).items; next_id = length (with_items c.self.inside.slots c.shift_slots.new.slots).items })) c.self.view_is
    (board_moved before c.args.unit c.args.dx c.args.dy c.self.inside.slots c.deref_mut.result.now c.shift_slots.new.slots refl refl c.deref_mut.ensures.value (omega arith)
    (cleaned (λ x. AllZip (IsMovedSlot c.args.unit x c.args.dy) c.deref_mut.result.now c.shift_slots.new.slots) c.args.dx c.ranges.dx
    (cleaned (λ y. AllZip (IsMovedSlot c.args.unit (passed c.args.dx) y) c.deref_mut.result.now c.shift_slots.new.slots) c.args.dy c.ranges.dy c.shift_slots.ensures)))

pub returns-clause-points : goal.returns-clause-points
returns-clause-points c =
    subst (λ (b : PlainBoard). HaveFirstPoints c.args.unit b.items) c.self.view_is
    (points_moved c.args.unit (passed c.args.dx) (passed c.args.dy) 0 c.self.inside.slots.items c.shift_slots.new.slots (subst (λ (zs : List (Option Item)). AllZip (IsMovedSlot c.args.unit (passed c.args.dx) (passed c.args.dy)) zs c.shift_slots.new.slots) c.deref_mut.ensures.value c.shift_slots.ensures))
