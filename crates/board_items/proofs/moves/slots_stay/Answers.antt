use Rattle.std.proofs.Common.{◌≡◌, ◌≤◌, true, ◌&&◌, Option, drop, suc, refl, sym, ◌∙◌, ap, subst, arith, add-one, slice_index_or}
use Rattle.std.specs.List.{list_all}
use Rattle.one_item.specs.declared.item.Item.{Item}
use Rattle.board_items.specs.ItemSlots.{IsUnitIn, is_slot_on_board, slot_stays}
use Rattle.board_items.proofs.UnitRows.{as_many, unit_in, stays_on}
use Rattle.board_items.proofs.UnitPlaces.{stays_before, stays_behind, others_before, others_behind}
use Rattle.board_items.proofs.moves.slots_stay.Goals as goal

pub loop-place-init : goal.loop-place-init
loop-place-init c = (
  stays_before c.args.unit c.args.step.dx c.args.step.dy c.args.places.from c.args.slots.now c.args.units.now c.requires.units
      (others_before c.args.unit c.args.units.now c.args.places.from c.args.places.end c.requires.places),
  refl,
  as_many c.args.slots.now c.args.units.now c.requires.units,
)

pub bounds-slots-place : goal.bounds-slots-place
bounds-slots-place c =
    let inside = c.requires.places.within in
    omega (arith, inside, c.loop-place.invariant.1, c.loop-place.invariant.2)

pub own_stays-requires-clause-own : goal.own_stays-requires-clause-own
own_stays-requires-clause-own c =
    let inside = c.requires.places.within in
    subst (λ (s : Option Item). IsUnitIn s (slice_index_or c.args.units.now c.loop-place.place 0)) (sym c.index-slots-place.is)
    (unit_in c.args.slots.now c.args.units.now c.loop-place.place _ 0 c.requires.units (omega (arith, inside, c.loop-place.invariant.1, c.loop-place.invariant.2)))

pub own_stays-requires-clause-on_board : goal.own_stays-requires-clause-on_board
own_stays-requires-clause-on_board c =
    let inside = c.requires.places.within in
    subst (λ (s : Option Item). is_slot_on_board s ≡ true) (sym c.index-slots-place.is) (c.requires.on_board c.loop-place.place _ (omega (arith, inside, c.loop-place.invariant.1, c.loop-place.invariant.2)))

pub returns-then-not-own_stays : goal.returns-then-not-own_stays
returns-then-not-own_stays c =
    let f = λ (s : Option Item). slot_stays c.args.unit c.args.step.dx c.args.step.dy s in
    let inside = c.requires.places.within in
    sym (stays_on f c.args.slots.now c.loop-place.place c.index-slots-place.result c.loop-place.invariant.0 (omega (arith, inside, c.loop-place.invariant.1, c.loop-place.invariant.2))
    ∙ ap (λ b. b && list_all f (drop (suc c.loop-place.place) c.args.slots.now)) (ap f (sym c.index-slots-place.is) ∙ sym c.own_stays.ensures ∙ c.if-not-own_stays.true))

pub loop-place-preserved : goal.loop-place-preserved
loop-place-preserved c =
    let f = λ (s : Option Item). slot_stays c.args.unit c.args.step.dx c.args.step.dy s in
    let inside = c.requires.places.within in (
      stays_on f c.args.slots.now c.loop-place.place c.index-slots-place.result c.loop-place.invariant.0 (omega (arith, inside, c.loop-place.invariant.1, c.loop-place.invariant.2))
          ∙ ap (λ b. b && list_all f (drop (suc c.loop-place.place) c.args.slots.now)) (ap f (sym c.index-slots-place.is) ∙ sym c.own_stays.ensures ∙ c.if-not-own_stays.false)
          ∙ ap (λ n. list_all f (drop n c.args.slots.now)) (sym (add-one c.loop-place.place)),
      c.loop-place.invariant.1,
      c.loop-place.invariant.2,
    )

pub returns : goal.returns
returns c =
    let ended : c.args.places.end ≤ c.loop-place.place = omega (arith, c.loop-place.invariant.1, c.loop-place-test.false) in
    sym (c.loop-place.invariant.0 ∙ stays_behind c.args.unit c.args.step.dx c.args.step.dy c.loop-place.place c.args.slots.now c.args.units.now c.requires.units
    (λ n lt le. others_behind c.args.unit c.args.units.now c.args.places.from c.args.places.end c.requires.places n lt (omega (arith, le, ended))))
