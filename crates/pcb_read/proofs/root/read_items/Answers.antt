use Rattle.std.proofs.Common.{rules}
use Rattle.pcb_read.proofs.Capacities.{rise_low, rise_high}
use Rattle.pcb_read.proofs.root.read_items.Goals as goal

pub returns-in_ok-items-in_default : goal.returns-in_ok-items-in_default
returns-in_ok-items-in_default c =
    let items = c.in_ok-items-in_default.items.items in
    record {
      read = search rules;
      copper = c.add_items.ensures.copper;
      not_below = rise_low c.add_items.result c.args.board.now c.add_items.new.board items c.add_items.ensures.added;
      one_at_most =
          rise_high c.add_items.result c.args.board.now c.add_items.new.board c.next_unit-unit.result items c.next_unit-unit.ensures c.in_ok-items-in_default.ensures.ready c.add_items.ensures.added;
    }
