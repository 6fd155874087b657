use Rattle.std.proofs.Common.{ℕ, List, Vec, subst, ◌∙◌, nat_eq, sym, ap}
use Rattle.indexmap.proofs.CallerLemmas.{insert_entry-new}
use Rattle.std.specs.declared.alloc.Global.{Global}
use Rattle.board_items.specs.BoardCaches.{AreIdsOf}
use Rattle.board_items.proofs.NetIds.{declared_lists}
use Rattle.board_items.specs.ItemSlots.{present}
use Rattle.std.specs.Prelude.{length}
use Rattle.board_items.specs.Boards.{PlainBoard, with_net}
use Rattle.board_items.proofs.Growing.{no_value, new_net, sound_declared}
use Rattle.board_items.proofs.board.Board.declare.Goals as goal

pub returns-clause-ok : goal.returns-clause-ok
returns-clause-ok c =
    let before : PlainBoard = record { copper = c.self.inside.copper; nets = c.self.inside.names.entries; items = present 0 c.self.inside.slots.items; next_id = length c.self.inside.slots.items; next_unit = c.self.inside.next_unit } in
    let absent = sym c.contains_key.ensures ∙ c.if-contains_key.false in
    new_net before c.args.net c.args.name c.insert.new.self.entries absent
    (c.in_ok-insert.ensures.entries ∙ insert_entry-new nat_eq c.self.inside.names c.args.net c.args.name (no_value _ absent))
    ∙ ap (λ (b : PlainBoard). with_net b c.args.net c.args.name) c.self.view_is

pub invariant_of-self-2 : goal.invariant_of-self-2
invariant_of-self-2 c =
    let before : PlainBoard = record { copper = c.self.inside.copper; nets = c.self.inside.names.entries; items = present 0 c.self.inside.slots.items; next_id = length c.self.inside.slots.items; next_unit = c.self.inside.next_unit } in
    let absent = no_value _ (sym c.contains_key.ensures ∙ c.if-contains_key.false) in
    let nets = c.in_ok-insert.ensures.entries ∙ insert_entry-new nat_eq c.self.inside.names c.args.net c.args.name absent in
    record {
      kept = record {
        sound = sound_declared before c.args.net c.args.name c.insert.new.self.entries c.self.invariant.kept.sound absent nets;
        marks = c.self.invariant.kept.marks;
        of_nets = declared_lists before c.args.net c.args.name _ c.insert.new.self.entries c.reserve.new.self.items _ c.self.invariant.kept.sound.admitted absent c.new-none.ensures.items nets c.push_reserved.ensures.items
            (subst (λ (ls : List (Vec ℕ Global)). AreIdsOf before.items before.nets ls) (sym c.reserve.ensures.items) c.self.invariant.kept.of_nets);
        count = c.self.invariant.kept.count;
      };
      notes = c.self.invariant.notes;
      tags_in = c.self.invariant.tags_in;
      units_in = c.self.invariant.units_in;
      rise = c.self.invariant.rise;
    }
