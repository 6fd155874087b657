use Rattle.std.proofs.Common.{length, ◌<◌, sym, ◌∙◌, ap, subst, arith, eq-eqb}
use Rattle.std.proofs.lemmas.Bool.{ne_eqb}
use Rattle.board_items.specs.Boards.{PlainBoard}
use Rattle.board_items.specs.ItemSlots.{present, without_id}
use Rattle.board_items.proofs.SlotLists.{without_part}
use Rattle.board_items.proofs.UnitRows.{as_many, not_of, all_of}
use Rattle.board_items.proofs.board.Board.drop_if_of.Goals as goal

pub index-requires : goal.index-requires
index-requires c =
    let lt : c.args.id < length c.self.inside.slots.items = subst (λ (b : PlainBoard). c.args.id < b.next_id) (sym c.self.view_is) c.requires in
    let many = as_many c.self.inside.slots.items c.self.inside.units.items c.self.invariant.units_in in
    let ok = c.self.inside.units.ok.0 in
    omega (arith, lt, many, ok)

pub returns-then-index-unit : goal.returns-then-index-unit
returns-then-index-unit c =
    let before : PlainBoard = record { copper = c.self.inside.copper; nets = c.self.inside.names.entries; items = present 0 c.self.inside.slots.items; next_id = length c.self.inside.slots.items; next_unit = c.self.inside.next_unit } in
    let lt = subst (λ (b : PlainBoard). c.args.id < b.next_id) (sym c.self.view_is) c.requires in
    c.take_out.ensures.taken ∙ ap (λ (b : PlainBoard). record b { items = without_id c.args.id b.items }) (sym c.self.view_is)
    ∙ ap (λ es. record before { items = es }) (all_of c.args.unit c.args.id c.self.inside.slots.items c.self.inside.units.items c.index.result.now c.self.invariant.units_in lt (eq-eqb _ _ (sym c.index.ensures ∙ c.if-index-unit.true)))
    ∙ ap (λ (b : PlainBoard). record b { items = without_part c.args.id c.args.unit b.items }) c.self.view_is

pub returns-else-index-unit : goal.returns-else-index-unit
returns-else-index-unit c =
    let before : PlainBoard = record { copper = c.self.inside.copper; nets = c.self.inside.names.entries; items = present 0 c.self.inside.slots.items; next_id = length c.self.inside.slots.items; next_unit = c.self.inside.next_unit } in
    let lt = subst (λ (b : PlainBoard). c.args.id < b.next_id) (sym c.self.view_is) c.requires in
    sym c.self.view_is ∙ ap (λ es. record before { items = es }) (sym (not_of c.args.unit c.args.id c.self.inside.slots.items c.self.inside.units.items c.index.result.now c.self.invariant.units_in lt (ne_eqb _ _ (λ e. c.if-index-unit.false (c.index.ensures ∙ e)))))
    ∙ ap (λ (b : PlainBoard). record b { items = without_part c.args.id c.args.unit b.items }) c.self.view_is
