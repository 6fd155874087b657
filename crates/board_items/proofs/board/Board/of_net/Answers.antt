use Rattle.std.proofs.Common.{◌≡◌, ℕ, None, sym, ◌∙◌, ap, Vec}
use Rattle.std.specs.declared.alloc.Global.{Global}
use Rattle.board_items.specs.ItemSlots.{present}
use Rattle.std.specs.Prelude.{length}
use Rattle.board_items.specs.Boards.{PlainBoard, ids_of_net, name_of}
use Rattle.board_items.proofs.Growing.{no_value}
use Rattle.board_items.proofs.NetIds.{net_at, place_fits, none_of, ids_at}
use Rattle.board_items.proofs.board.Board.of_net.Goals as goal

pub index-requires : goal.index-requires
index-requires c =
    let before : PlainBoard = record { copper = c.self.inside.copper; nets = c.self.inside.names.entries; items = present 0 c.self.inside.slots.items; next_id = length c.self.inside.slots.items; next_unit = c.self.inside.next_unit } in
    place_fits before c.args.net c.self.inside.of_nets c.in-Some.place c.self.invariant.kept.of_nets (net_at c.args.net before.nets c.in-Some.place (sym c.in-Some.ensures.index))

pub returns-in-None : goal.returns-in-None
returns-in-None c =
    let before : PlainBoard = record { copper = c.self.inside.copper; nets = c.self.inside.names.entries; items = present 0 c.self.inside.slots.items; next_id = length c.self.inside.slots.items; next_unit = c.self.inside.next_unit } in
    let absent : name_of before c.args.net ≡ None = no_value _ (sym c.in-None.ensures.found) in
    sym (none_of before c.args.net before.items c.self.invariant.kept.sound.admitted absent) ∙ ap (λ (b : PlainBoard). ids_of_net c.args.net b.items) c.self.view_is

pub returns-in-Some : goal.returns-in-Some
returns-in-Some c =
    let before : PlainBoard = record { copper = c.self.inside.copper; nets = c.self.inside.names.entries; items = present 0 c.self.inside.slots.items; next_id = length c.self.inside.slots.items; next_unit = c.self.inside.next_unit } in
    let at = net_at c.args.net before.nets c.in-Some.place (sym c.in-Some.ensures.index) in
    c.deref.ensures.value ∙ ap (λ (v : Vec ℕ Global). v.items) c.index.ensures ∙ ids_at before.items c.args.net before.nets c.self.inside.of_nets.items c.in-Some.place _ c.self.invariant.kept.of_nets at
    ∙ ap (λ (b : PlainBoard). ids_of_net c.args.net b.items) c.self.view_is
