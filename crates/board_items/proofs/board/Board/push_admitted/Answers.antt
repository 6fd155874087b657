use Rattle.std.proofs.Common.{◌≡◌, ◌<◌, ◌∷◌, ◌++◌, [], ℕ, List, Option, true, refl, subst, sym, ap, ◌∙◌, length}
use Rattle.board_items.specs.Boards.{PlainBoard, with_item, is_admitted}
use Rattle.one_item.specs.declared.item.Item.{Item}
use Rattle.board_items.specs.ItemSlots.{present, UnitsRise}
use Rattle.board_items.specs.ItemNotes.{notes_of}
use Rattle.board_items.specs.ItemRefusals.{capacity_of}
use Rattle.board_items.proofs.Adding.{kept_added, board_added, notes_added}
use Rattle.board_items.proofs.NetIds.{net_at, place_fits, kept_lists, kept_same}
use Rattle.board_items.proofs.TagRows.{tags_same, tags_added}
use Rattle.board_items.proofs.UnitRows.{units_same, units_added}
use Rattle.board_items.proofs.board.Board.push_admitted.Goals as goal

pub index_mut-of_net-requires : goal.index_mut-of_net-requires
index_mut-of_net-requires c =
    let before : PlainBoard = record { copper = c.self.inside.copper; nets = c.self.inside.names.entries; items = present 0 c.self.inside.slots.items; next_id = length c.self.inside.slots.items; next_unit = c.self.inside.next_unit } in
    let at = net_at c.args.item.net before.nets c.in-Some.place (sym c.in-Some.ensures.index) in
    place_fits before c.args.item.net c.self.inside.of_nets c.in-Some.place c.self.invariant.kept.of_nets at

pub invariant_of-self : goal.invariant_of-self
invariant_of-self c =
    let before : PlainBoard = record { copper = c.self.inside.copper; nets = c.self.inside.names.entries; items = present 0 c.self.inside.slots.items; next_id = length c.self.inside.slots.items; next_unit = c.self.inside.next_unit } in
    let at = net_at c.args.item.net before.nets c.in-Some.place (sym c.in-Some.ensures.index) in
    let slots = c.in_err-id.ensures.slots_stay in
    record {
      kept = kept_same before _ _ c.self.inside.marks.items _ _ _ c.self.invariant.kept.sound c.self.invariant.kept.marks c.self.invariant.kept.count (ap (present 0) slots) (ap length slots) c.in_err-id.ensures.marks_stay
          (kept_lists before c.args.item.net _ c.self.inside.of_nets.items c.in-Some.place _ _ _ c.self.invariant.kept.of_nets at c.index_mut-of_net.ensures.value c.in_err-id.ensures.of_net_stays (ap (present 0) slots));
      notes = c.in_err-id.ensures.notes_stay ∙ c.self.invariant.notes ∙ sym (ap (λ (ss : List (Option Item)). notes_of (present 0 ss)) slots);
      tags_in = tags_same c.self.inside.slots.items _ c.self.inside.tags.items _ c.self.invariant.tags_in slots c.in_err-id.ensures.tags_stay;
      units_in = units_same c.self.inside.slots.items _ c.self.inside.units.items _ c.self.invariant.units_in slots c.in_err-id.ensures.units_stay;
      rise = λ e. subst (UnitsRise 0) (sym c.in_err-id.ensures.units_stay) (c.self.invariant.rise e);
    }

pub invariant_of-self-2 : goal.invariant_of-self-2
invariant_of-self-2 c =
    let before : PlainBoard = record { copper = c.self.inside.copper; nets = c.self.inside.names.entries; items = present 0 c.self.inside.slots.items; next_id = length c.self.inside.slots.items; next_unit = c.self.inside.next_unit } in
    let at = net_at c.args.item.net before.nets c.in-Some.place (sym c.in-Some.ensures.index) in
    record {
      kept = kept_added before c.args.item c.in_ok-id.id _ c.self.inside.marks.items _ c.self.inside.of_nets.items c.in-Some.place _ _ _ c.self.inside.live _ c.self.inside.slots.items _ c.self.invariant.kept
          (subst (λ (b : PlainBoard). is_admitted b c.args.item ≡ true) (sym c.self.view_is) c.requires.admitted)
          (subst (λ (b : PlainBoard). 0 < capacity_of b) (sym c.self.view_is) c.requires.spare_capacity) c.requires.unit
          refl refl c.in_ok-id.ensures.id c.in_ok-id.ensures.slots c.in_ok-id.ensures.marks c.max-next_unit.ensures at c.index_mut-of_net.ensures.value c.in_ok-id.ensures.of_net refl;
      notes = notes_added before c.args.item c.in_ok-id.id c.self.inside.slots.items _ c.self.inside.notes.items _ refl refl c.in_ok-id.ensures.id c.in_ok-id.ensures.slots c.self.invariant.notes c.in_ok-id.ensures.notes;
      tags_in = tags_added c.self.inside.slots.items _ c.self.inside.tags.items _ c.args.item c.self.invariant.tags_in c.in_ok-id.ensures.slots c.in_ok-id.ensures.tags;
      units_in = units_added c.self.inside.slots.items _ c.self.inside.units.items _ c.args.item c.self.invariant.units_in c.in_ok-id.ensures.slots c.in_ok-id.ensures.units;
      rise = λ e. subst (UnitsRise 0) (sym c.in_ok-id.ensures.units)
          (subst (λ (us : List ℕ). UnitsRise 0 (us ++ c.args.item.unit ∷ [])) c.deref.ensures.value
          (c.goes_on-in_order.ensures (λ t. subst (UnitsRise 0) (sym c.deref.ensures.value) (c.self.invariant.rise t)) e));
    }

pub returns-clause-added : goal.returns-clause-added
returns-clause-added c =
    let before : PlainBoard = record { copper = c.self.inside.copper; nets = c.self.inside.names.entries; items = present 0 c.self.inside.slots.items; next_id = length c.self.inside.slots.items; next_unit = c.self.inside.next_unit } in
    board_added before c.args.item c.self.inside.slots.items _ _ refl refl c.in_ok-id.ensures.slots c.max-next_unit.ensures ∙ ap (λ (b : PlainBoard). with_item b c.args.item) c.self.view_is
