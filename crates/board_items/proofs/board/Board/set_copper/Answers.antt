use Rattle.std.proofs.Common.{◌≡◌, subst, sym}
use Rattle.board_items.specs.ItemSlots.{present}
use Rattle.std.specs.Prelude.{length}
use Rattle.board_items.specs.Boards.{PlainBoard}
use Rattle.board_items.proofs.Growing.{sound_layered}
use Rattle.board_items.proofs.board.Board.set_copper.Goals as goal

pub invariant_of-self : goal.invariant_of-self
invariant_of-self c =
    let before : PlainBoard = record { copper = c.self.inside.copper; nets = c.self.inside.names.entries; items = present 0 c.self.inside.slots.items; next_id = length c.self.inside.slots.items; next_unit = c.self.inside.next_unit } in
    record {
      kept = record {
        sound = sound_layered before c.args.copper c.self.invariant.kept.sound (subst (λ (b : PlainBoard). b.copper.bits ≡ 0) (sym c.self.view_is) c.requires);
        marks = c.self.invariant.kept.marks;
        of_nets = c.self.invariant.kept.of_nets;
        count = c.self.invariant.kept.count;
      };
      notes = c.self.invariant.notes;
      tags_in = c.self.invariant.tags_in;
      units_in = c.self.invariant.units_in;
      rise = c.self.invariant.rise;
    }
