use Rattle.std.proofs.Common.{◌≡◌, ◌<◌, ◌∙◌, ap, sym, subst, refl, ℕ, List, Option, length, get_or, set, cond, None, Some, arith}
use Rattle.one_item.specs.declared.item.Item.{Item}
use Rattle.board_items.specs.Boards.{PlainBoard}
use Rattle.board_items.specs.ItemSlots.{present, AreUnitsIn}
use Rattle.board_items.specs.Tags.{AreTagsIn}
use Rattle.board_items.specs.Back.{kept_entry, placed, id_placed, FitsOne}
use Rattle.board_items.proofs.NetIds.{net_at, place_fits, kept_lists, kept_same}
use Rattle.board_items.proofs.Placed.{full, kept_put, notes_put, units_put}
use Rattle.board_items.proofs.SlotLists.{slot_is, as_long}
use Rattle.board_items.proofs.TagRows.{as_many as tags_many, tags_put}
use Rattle.board_items.proofs.UnitRows.{as_many}
use Rattle.board_items.proofs.board.Board.put_one.Goals as goal

pub index_mut-ids-requires : goal.index_mut-ids-requires
index_mut-ids-requires c =
    let before : PlainBoard = record { copper = c.self.inside.copper; nets = c.self.inside.names.entries; items = present 0 c.self.inside.slots.items; next_id = length c.self.inside.slots.items; next_unit = c.self.inside.next_unit } in
    let at = net_at c.args.kept.item.net before.nets c.in-Some.place (sym c.in-Some.ensures.index) in
    place_fits before c.args.kept.item.net c.self.inside.of_nets c.in-Some.place c.self.invariant.kept.of_nets at

pub invariant_of-self : goal.invariant_of-self
invariant_of-self c =
    let before : PlainBoard = record { copper = c.self.inside.copper; nets = c.self.inside.names.entries; items = present 0 c.self.inside.slots.items; next_id = length c.self.inside.slots.items; next_unit = c.self.inside.next_unit } in
    let at = net_at c.args.kept.item.net before.nets c.in-Some.place (sym c.in-Some.ensures.index) in
    record {
      kept = kept_same before _ _ c.self.inside.marks.items _ _ _ c.self.invariant.kept.sound c.self.invariant.kept.marks c.self.invariant.kept.count refl refl c.reserve_one.ensures.marks_stay
          (kept_lists before c.args.kept.item.net _ c.self.inside.of_nets.items c.in-Some.place _ _ _ c.self.invariant.kept.of_nets at c.index_mut-ids.ensures.value c.reserve_one.ensures.ids_stay refl);
      notes = c.reserve_one.ensures.notes_stay ∙ c.self.invariant.notes;
      tags_in = c.self.invariant.tags_in;
      units_in = c.self.invariant.units_in;
      rise = c.self.invariant.rise;
    }

pub put_unit-in_order-requires : goal.put_unit-in_order-requires
put_unit-in_order-requires c =
    let lt : c.args.kept.id < length c.self.inside.slots.items = subst (λ (b : PlainBoard). c.args.kept.id < b.next_id) (sym c.self.view_is) c.requires.id in
    let many = as_many c.self.inside.slots.items c.self.inside.units.items c.self.invariant.units_in in
    let ok = c.self.inside.units.ok.0 in
    omega (arith, lt, many, ok)

pub index_mut-requires : goal.index_mut-requires
index_mut-requires c =
    let lt : c.args.kept.id < length c.self.inside.slots.items = subst (λ (b : PlainBoard). c.args.kept.id < b.next_id) (sym c.self.view_is) c.requires.id in
    let many = tags_many c.self.inside.slots.items c.self.inside.tags.items c.self.invariant.tags_in in
    let ok = c.self.inside.tags.ok.0 in
    omega (arith, lt, many, ok)

pub invariant_of-self-2 : goal.invariant_of-self-2
invariant_of-self-2 c =
    let before : PlainBoard = record { copper = c.self.inside.copper; nets = c.self.inside.names.entries; items = present 0 c.self.inside.slots.items; next_id = length c.self.inside.slots.items; next_unit = c.self.inside.next_unit } in
    let at = net_at c.args.kept.item.net before.nets c.in-Some.place (sym c.in-Some.ensures.index) in
    let lt : c.args.kept.id < length c.self.inside.slots.items = subst (λ (b : PlainBoard). c.args.kept.id < b.next_id) (sym c.self.view_is) c.requires.id in
    let fit : FitsOne before (kept_entry c.args.kept) = subst (λ (b : PlainBoard). FitsOne b (kept_entry c.args.kept)) (sym c.self.view_is) c.requires in
    let gap : get_or c.self.inside.slots.items c.args.kept.id None ≡ None = slot_is c.args.kept.id c.self.inside.slots.items None lt ∙ fit.free in
    let is : c.replace.new.self ≡ Some c.args.kept.item = c.replace.ensures.after in
    let back : present 0 (set c.self.inside.slots.items c.args.kept.id c.replace.new.self) ≡ placed (kept_entry c.args.kept) before.items =
    ap (λ (slot : Option Item). present 0 (set c.self.inside.slots.items c.args.kept.id slot)) is ∙ full c.args.kept.id c.self.inside.slots.items c.args.kept.item lt gap in
    let many = as_many c.self.inside.slots.items c.self.inside.units.items c.self.invariant.units_in in
    record {
      kept = kept_put (kept_entry c.args.kept) before _ _ c.self.inside.marks.items _ c.self.inside.of_nets.items c.in-Some.place _ c.index_mut-ids.result.now _ c.self.inside.live _ c.self.invariant.kept fit back
          (as_long c.args.kept.id c.self.inside.slots.items c.replace.new.self) at c.index_mut-ids.ensures.value (c.put_id.ensures ∙ ap (id_placed c.args.kept.id) c.reserve_one.ensures.ids_stay)
          (c.put_if.ensures ∙ ap (λ (ms : List ℕ). cond c.is_mark.result (id_placed c.args.kept.id ms) ms) c.reserve_one.ensures.marks_stay
          ∙ ap (λ t. cond t (id_placed c.args.kept.id c.self.inside.marks.items) c.self.inside.marks.items) c.is_mark.ensures) refl;
      notes = notes_put (kept_entry c.args.kept) before _ c.self.inside.notes.items _ c.self.invariant.kept.sound c.self.invariant.notes back
          (c.put_if-2.ensures ∙ ap (λ (ms : List ℕ). cond c.is_note.result (id_placed c.args.kept.id ms) ms) c.reserve_one.ensures.notes_stay
          ∙ ap (λ t. cond t (id_placed c.args.kept.id c.self.inside.notes.items) c.self.inside.notes.items) c.is_note.ensures);
      tags_in = subst (λ (slot : Option Item). AreTagsIn (set c.self.inside.slots.items c.args.kept.id slot) (set c.self.inside.tags.items c.args.kept.id c.tag_of.result)) (sym is)
          (tags_put c.self.inside.slots.items c.self.inside.tags.items c.args.kept.id c.args.kept.item c.tag_of.result c.self.invariant.tags_in c.tag_of.ensures);
      units_in = subst (λ (us : List ℕ). AreUnitsIn (set c.self.inside.slots.items c.args.kept.id c.replace.new.self) us) (sym c.put_unit-in_order.ensures.row)
          (subst (λ (slot : Option Item). AreUnitsIn (set c.self.inside.slots.items c.args.kept.id slot) (set c.self.inside.units.items c.args.kept.id c.args.kept.item.unit)) (sym is)
          (units_put c.self.inside.slots.items c.self.inside.units.items c.args.kept.id c.args.kept.item c.self.invariant.units_in));
      rise = c.put_unit-in_order.ensures.rise c.self.invariant.rise;
    }

pub returns-clause-put : goal.returns-clause-put
returns-clause-put c =
    let before : PlainBoard = record { copper = c.self.inside.copper; nets = c.self.inside.names.entries; items = present 0 c.self.inside.slots.items; next_id = length c.self.inside.slots.items; next_unit = c.self.inside.next_unit } in
    let lt : c.args.kept.id < length c.self.inside.slots.items = subst (λ (b : PlainBoard). c.args.kept.id < b.next_id) (sym c.self.view_is) c.requires.id in
    let fit : FitsOne before (kept_entry c.args.kept) = subst (λ (b : PlainBoard). FitsOne b (kept_entry c.args.kept)) (sym c.self.view_is) c.requires in
    let gap : get_or c.self.inside.slots.items c.args.kept.id None ≡ None = slot_is c.args.kept.id c.self.inside.slots.items None lt ∙ fit.free in
    let is : c.replace.new.self ≡ Some c.args.kept.item = c.replace.ensures.after in
    let back : present 0 (set c.self.inside.slots.items c.args.kept.id (Some c.args.kept.item)) ≡ placed (kept_entry c.args.kept) before.items = full c.args.kept.id c.self.inside.slots.items c.args.kept.item lt gap in
    ap (λ (slot : Option Item). record before { items = present 0 (set c.self.inside.slots.items c.args.kept.id slot); next_id = length (set c.self.inside.slots.items c.args.kept.id slot) }) is
    ∙ ap (λ (es : List (ℕ × Item)). record before { items = es; next_id = length (set c.self.inside.slots.items c.args.kept.id (Some c.args.kept.item)) }) back
    ∙ ap (λ (n : ℕ). record before { items = placed (kept_entry c.args.kept) before.items; next_id = n }) (as_long c.args.kept.id c.self.inside.slots.items (Some c.args.kept.item))
    ∙ ap (λ (b : PlainBoard). record b { items = placed (kept_entry c.args.kept) b.items }) c.self.view_is
