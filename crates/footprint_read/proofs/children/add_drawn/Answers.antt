use Rattle.std.proofs.Common.{rules}
use Rattle.footprint_read.proofs.children.add_drawn.Goals as goal

pub returns-in_ok-add_items-in_default : goal.returns-in_ok-add_items-in_default
returns-in_ok-add_items-in_default c = record {
  read = search rules;
  ready = c.in_ok-add_items-in_default.ensures.ready c.args.board.now c.args.unit c.requires.ready c.in_ok-items-in_default.ensures.ready;
}
