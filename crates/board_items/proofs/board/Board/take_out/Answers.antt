use Rattle.std.proofs.Common.{◌≡◌, None, Some, length, set, cond, filter, not, nat_eq, refl, sym, ◌∙◌, ap, arith}
use Rattle.board_items.specs.Boards.{PlainBoard, item_at}
use Rattle.board_items.specs.ItemSlots.{present, without_id}
use Rattle.board_items.proofs.Admitted.{net_declared}
use Rattle.board_items.proofs.Growing.{no_value}
use Rattle.board_items.proofs.NetIds.{net_at, place_fits}
use Rattle.board_items.proofs.Removing.{kept_left, notes_left}
use Rattle.board_items.proofs.SlotLists.{in_row, absent, emptied, as_long, slot_is, board_left}
use Rattle.board_items.proofs.TagRows.{tags_emptied}
use Rattle.board_items.proofs.UnitRows.{units_emptied}
use Rattle.board_items.proofs.board.Board.take_out.Goals as goal

pub returns-in_err-item-clause-taken : goal.returns-in_err-item-clause-taken
returns-in_err-item-clause-taken c =
    let before : PlainBoard = record { copper = c.self.inside.copper; nets = c.self.inside.names.entries; items = present 0 c.self.inside.slots.items; next_id = length c.self.inside.slots.items; next_unit = c.self.inside.next_unit } in
    let none : item_at before.items c.args.id ≡ None = ap (λ xs. item_at (present 0 xs) c.args.id) (sym c.deref.ensures.value) ∙ sym c.in_err-item.ensures in
    sym (ap (λ (b : PlainBoard). record b { items = without_id c.args.id b.items }) (sym c.self.view_is) ∙ ap (λ es. record before { items = es }) (absent c.args.id c.self.inside.slots.items none) ∙ c.self.view_is)

pub returns-in_err-place-clause-found : goal.returns-in_err-place-clause-found
returns-in_err-place-clause-found c =
    let before : PlainBoard = record { copper = c.self.inside.copper; nets = c.self.inside.names.entries; items = present 0 c.self.inside.slots.items; next_id = length c.self.inside.slots.items; next_unit = c.self.inside.next_unit } in
    let found : item_at before.items c.args.id ≡ Some c.in_ok-item.item.now = ap (λ xs. item_at (present 0 xs) c.args.id) (sym c.deref.ensures.value) ∙ sym c.in_ok-item.ensures in
    absurd (net_declared before c.args.id c.in_ok-item.item.now c.self.invariant.kept.sound.admitted found (no_value _ (sym c.in_err-place.ensures.found)))

pub returns-in_err-place-clause-taken : goal.returns-in_err-place-clause-taken
returns-in_err-place-clause-taken c =
    let before : PlainBoard = record { copper = c.self.inside.copper; nets = c.self.inside.names.entries; items = present 0 c.self.inside.slots.items; next_id = length c.self.inside.slots.items; next_unit = c.self.inside.next_unit } in
    let found : item_at before.items c.args.id ≡ Some c.in_ok-item.item.now = ap (λ xs. item_at (present 0 xs) c.args.id) (sym c.deref.ensures.value) ∙ sym c.in_ok-item.ensures in
    absurd (net_declared before c.args.id c.in_ok-item.item.now c.self.invariant.kept.sound.admitted found (no_value _ (sym c.in_err-place.ensures.found)))

pub index_mut-requires : goal.index_mut-requires
index_mut-requires c =
    let before : PlainBoard = record { copper = c.self.inside.copper; nets = c.self.inside.names.entries; items = present 0 c.self.inside.slots.items; next_id = length c.self.inside.slots.items; next_unit = c.self.inside.next_unit } in
    let at = net_at c.in_ok-item.item.now.net before.nets c.in_ok-place.place (sym c.in_ok-place.ensures.index) in
    place_fits before c.in_ok-item.item.now.net c.self.inside.of_nets c.in_ok-place.place c.self.invariant.kept.of_nets at

pub index_mut-requires-2 : goal.index_mut-requires-2
index_mut-requires-2 c =
    let before : PlainBoard = record { copper = c.self.inside.copper; nets = c.self.inside.names.entries; items = present 0 c.self.inside.slots.items; next_id = length c.self.inside.slots.items; next_unit = c.self.inside.next_unit } in
    let found : item_at before.items c.args.id ≡ Some c.in_ok-item.item.now = ap (λ xs. item_at (present 0 xs) c.args.id) (sym c.deref.ensures.value) ∙ sym c.in_ok-item.ensures in
    let lt = in_row c.args.id c.self.inside.slots.items c.in_ok-item.item.now found in
    let ok = c.self.inside.slots.ok.0 in
    omega (arith, lt, ok)

pub invariant_of-self : goal.invariant_of-self
invariant_of-self c =
    let before : PlainBoard = record { copper = c.self.inside.copper; nets = c.self.inside.names.entries; items = present 0 c.self.inside.slots.items; next_id = length c.self.inside.slots.items; next_unit = c.self.inside.next_unit } in
    let found : item_at before.items c.args.id ≡ Some c.in_ok-item.item.now = ap (λ xs. item_at (present 0 xs) c.args.id) (sym c.deref.ensures.value) ∙ sym c.in_ok-item.ensures in
    let at = net_at c.in_ok-item.item.now.net before.nets c.in_ok-place.place (sym c.in_ok-place.ensures.index) in
    let lt = in_row c.args.id c.self.inside.slots.items c.in_ok-item.item.now found in
    record {
      kept = kept_left c.args.id c.in_ok-item.item.now before _ _ c.self.inside.marks.items _ c.self.inside.of_nets.items c.in_ok-place.place _ _ _ c.self.inside.live _ c.self.invariant.kept found
          (ap (λ s. present 0 (set c.self.inside.slots.items c.args.id s)) c.take.ensures.after ∙ emptied c.args.id c.self.inside.slots.items lt)
          (as_long c.args.id c.self.inside.slots.items c.take.new.self) at c.index_mut.ensures.value c.drop_id.ensures
          (c.drop_if.ensures ∙ ap (λ t. cond t (filter (λ other. not (nat_eq other c.args.id)) c.self.inside.marks.items) c.self.inside.marks.items) c.is_mark-is_mark.ensures) refl;
      notes = notes_left c.args.id c.in_ok-item.item.now before _ c.self.inside.notes.items _ c.self.invariant.kept.sound c.self.invariant.notes found
          (ap (λ s. present 0 (set c.self.inside.slots.items c.args.id s)) c.take.ensures.after ∙ emptied c.args.id c.self.inside.slots.items lt)
          (c.drop_if-2.ensures ∙ ap (λ t. cond t (filter (λ other. not (nat_eq other c.args.id)) c.self.inside.notes.items) c.self.inside.notes.items) c.is_note-is_note.ensures);
      rise = c.self.invariant.rise;
      tags_in = tags_emptied c.self.inside.slots.items c.self.inside.tags.items c.args.id c.take.new.self c.self.invariant.tags_in c.take.ensures.after;
      units_in = units_emptied c.self.inside.slots.items c.self.inside.units.items c.args.id c.take.new.self c.self.invariant.units_in c.take.ensures.after;
    }

pub returns-clause-found : goal.returns-clause-found
returns-clause-found c =
    let before : PlainBoard = record { copper = c.self.inside.copper; nets = c.self.inside.names.entries; items = present 0 c.self.inside.slots.items; next_id = length c.self.inside.slots.items; next_unit = c.self.inside.next_unit } in
    let found : item_at before.items c.args.id ≡ Some c.in_ok-item.item.now = ap (λ xs. item_at (present 0 xs) c.args.id) (sym c.deref.ensures.value) ∙ sym c.in_ok-item.ensures in
    let lt = in_row c.args.id c.self.inside.slots.items c.in_ok-item.item.now found in
    c.take.ensures.value ∙ c.index_mut-2.ensures.value ∙ slot_is c.args.id c.self.inside.slots.items _ lt ∙ ap (λ (b : PlainBoard). item_at b.items c.args.id) c.self.view_is

pub returns-clause-taken : goal.returns-clause-taken
returns-clause-taken c =
    let before : PlainBoard = record { copper = c.self.inside.copper; nets = c.self.inside.names.entries; items = present 0 c.self.inside.slots.items; next_id = length c.self.inside.slots.items; next_unit = c.self.inside.next_unit } in
    let found : item_at before.items c.args.id ≡ Some c.in_ok-item.item.now = ap (λ xs. item_at (present 0 xs) c.args.id) (sym c.deref.ensures.value) ∙ sym c.in_ok-item.ensures in
    let lt = in_row c.args.id c.self.inside.slots.items c.in_ok-item.item.now found in
    board_left before c.args.id c.self.inside.slots.items c.take.new.self lt c.take.ensures.after ∙ ap (λ (b : PlainBoard). record b { items = without_id c.args.id b.items }) c.self.view_is
