use Rattle.std.proofs.Common.{◌≡◌, ◌<◌, ◌≤◌, true, Option, length, refl, sym, ◌∙◌, subst, arith, slice_index_or}
use Rattle.geo_seg.proofs.Rewritten.{not_yet, one_written}
use Rattle.geo_seg.proofs.Shifted.{all_at}
use Rattle.one_item.specs.declared.item.Item.{Item}
use Rattle.board_items.specs.ItemSlots.{IsUnitIn, IsMovedSlot, is_slot_on_board, slot_stays}
use Rattle.board_items.proofs.SlotLists.{as_long}
use Rattle.board_items.proofs.UnitRows.{as_many, unit_in}
use Rattle.board_items.proofs.UnitPlaces.{moved_before, moved_behind, others_before, others_behind}
use Rattle.board_items.proofs.moves.shift_slots.Goals as goal

pub loop-place-init : goal.loop-place-init
loop-place-init c = (
  moved_before c.args.unit c.args.step.dx c.args.step.dy c.args.places.from c.args.slots.now c.args.units.now c.requires.units
      (others_before c.args.unit c.args.units.now c.args.places.from c.args.places.end c.requires.places),
  refl,
  refl,
  as_many c.args.slots.now c.args.units.now c.requires.units,
)

pub bounds-slots-place : goal.bounds-slots-place
bounds-slots-place c =
    let inside = c.requires.places.within in
    omega (arith, inside, c.loop-place.invariant.1, c.loop-place.invariant.2, c.loop-place.invariant.3)

pub shift_own-requires-clause-own : goal.shift_own-requires-clause-own
shift_own-requires-clause-own c =
    let inside = c.requires.places.within in
    subst (λ (s : Option Item). IsUnitIn s (slice_index_or c.args.units.now c.loop-place.place 0)) (sym (not_yet (IsMovedSlot c.args.unit c.args.step.dx c.args.step.dy) c.loop-place.place c.args.slots.now c.loop-place.slots c.loop-place.invariant.0 _))
    (unit_in c.args.slots.now c.args.units.now c.loop-place.place _ 0 c.requires.units (omega (arith, inside, c.loop-place.invariant.1, c.loop-place.invariant.3)))

pub shift_own-requires-clause-on_board : goal.shift_own-requires-clause-on_board
shift_own-requires-clause-on_board c =
    let inside = c.requires.places.within in
    subst (λ (e : Option Item). is_slot_on_board e ≡ true) (sym (not_yet (IsMovedSlot c.args.unit c.args.step.dx c.args.step.dy) c.loop-place.place c.args.slots.now c.loop-place.slots c.loop-place.invariant.0 _))
    (c.requires.on_board c.loop-place.place _ (omega (arith, inside, c.loop-place.invariant.1, c.loop-place.invariant.3)))

pub shift_own-requires-clause-stays : goal.shift_own-requires-clause-stays
shift_own-requires-clause-stays c =
    let inside = c.requires.places.within in
    subst (λ (e : Option Item). slot_stays c.args.unit c.args.step.dx c.args.step.dy e ≡ true)
    (sym (not_yet (IsMovedSlot c.args.unit c.args.step.dx c.args.step.dy) c.loop-place.place c.args.slots.now c.loop-place.slots c.loop-place.invariant.0 _))
    (all_at (λ (e : Option Item). slot_stays c.args.unit c.args.step.dx c.args.step.dy e) c.args.slots.now c.loop-place.place _ (omega (arith, inside, c.loop-place.invariant.1, c.loop-place.invariant.3)) c.requires.stays)

pub loop-place-preserved : goal.loop-place-preserved
loop-place-preserved c =
    let inside = c.requires.places.within in
    let lt : c.loop-place.place < length c.loop-place.slots = omega (arith, inside, c.loop-place.invariant.1, c.loop-place.invariant.2, c.loop-place.invariant.3) in (
      one_written (IsMovedSlot c.args.unit c.args.step.dx c.args.step.dy) c.loop-place.place c.args.slots.now c.loop-place.slots _ c.shift_own.new.slot c.loop-place.invariant.0 lt c.shift_own.ensures,
      c.loop-place.invariant.1,
      as_long c.loop-place.place c.loop-place.slots c.shift_own.new.slot ∙ c.loop-place.invariant.2,
      c.loop-place.invariant.3,
    )

pub returns : goal.returns
returns c =
    let ended : c.args.places.end ≤ c.loop-place.place = omega (arith, c.loop-place.invariant.1, c.loop-place-test.false) in
    moved_behind c.args.unit c.args.step.dx c.args.step.dy c.loop-place.place c.args.slots.now c.loop-place.slots c.args.units.now c.requires.units
    (λ n lt le. others_behind c.args.unit c.args.units.now c.args.places.from c.args.places.end c.requires.places n lt (omega (arith, le, ended))) c.loop-place.invariant.0
