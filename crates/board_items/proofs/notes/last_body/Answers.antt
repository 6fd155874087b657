use Rattle.std.proofs.Common.{◌≡◌, ◌<◌, ◌∙◌, ap, sym, subst, suc, ◌-◌, length, get_or, take, Option, arith}
use Rattle.one_item.specs.declared.item.Item.{Item}
use Rattle.board_items.specs.ItemSlots.{present, IsUnitIn}
use Rattle.board_items.specs.ItemNotes.{only_body}
use Rattle.board_items.proofs.NoteWalks.{bodies, last_of, begun, met, not_met, stopped}
use Rattle.board_items.proofs.UnitRows.{as_many, unit_in}
use Rattle.board_items.proofs.notes.last_body.Goals as goal

pub slots-init : goal.slots-init
slots-init c = record { found = begun c.args.unit c.args.id c.args.slots.now; within = omega arith }

pub bounds-units-place : goal.bounds-units-place
bounds-units-place c = let many = as_many c.args.slots.now c.args.units.now c.requires.units in omega (arith, many)

pub only_body-requires : goal.only_body-requires
only_body-requires c =
    subst (λ (s : Option Item). IsUnitIn s (get_or c.args.units.now (c.slots.place - 1) 0)) (sym c.index-slots-place.is)
    (unit_in c.args.slots.now c.args.units.now (c.slots.place - 1) c.index-slots-place.result 0 c.requires.units (omega arith))

pub returns-in-Some : goal.returns-in-Some
returns-in-Some c =
    let at : c.slots.place ≡ suc (c.slots.place - 1) = omega arith in
    let lt : c.slots.place - 1 < length c.args.slots.now = omega arith in
    sym (c.slots.invariant.found ∙ ap (λ n. last_of (bodies c.args.unit (present 0 (take n c.args.slots.now)))) at
    ∙ met c.args.unit (c.slots.place - 1) c.args.slots.now c.index-slots-place.result c.in-Some.body.now lt (ap (only_body c.args.unit) (sym c.index-slots-place.is) ∙ sym c.in-Some.ensures))

pub returns-then-own-unit : goal.returns-then-own-unit
returns-then-own-unit c =
    let at : c.slots.place ≡ suc (c.slots.place - 1) = omega arith in
    let many = as_many c.args.slots.now c.args.units.now c.requires.units in
    let inside : c.args.id < length c.args.units.now = omega (arith, many) in
    sym (c.slots.invariant.found ∙ ap (λ n. last_of (bodies c.args.unit (present 0 (take n c.args.slots.now)))) at
    ∙ stopped c.args.unit c.args.id (c.slots.place - 1) c.args.slots.now c.args.units.now (c.requires.rise c.if-in_order.true) c.requires.units (omega arith) inside c.requires.own c.if-own-unit.true)

pub slots-preserved : goal.slots-preserved
slots-preserved c =
    let at : c.slots.place ≡ suc (c.slots.place - 1) = omega arith in
    let lt : c.slots.place - 1 < length c.args.slots.now = omega arith in
    record {
      found = c.slots.invariant.found ∙ ap (λ n. last_of (bodies c.args.unit (present 0 (take n c.args.slots.now)))) at
          ∙ ap last_of (not_met c.args.unit (c.slots.place - 1) c.args.slots.now c.index-slots-place.result lt (ap (only_body c.args.unit) (sym c.index-slots-place.is) ∙ sym c.in_default.ensures));
      within = omega arith;
    }
