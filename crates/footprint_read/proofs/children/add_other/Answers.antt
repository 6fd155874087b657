use Rattle.footprint_read.proofs.children.add_other.Goals as goal

pub returns-then-is_writing-clause-ready : goal.returns-then-is_writing-clause-ready
returns-then-is_writing-clause-ready c = c.in_ok-add_items.ensures.ready c.args.board.now c.args.unit c.requires.ready c.in_ok-notes.ensures.ready

pub returns-then-has_head-clause-ready : goal.returns-then-has_head-clause-ready
returns-then-has_head-clause-ready c = c.in_ok-add_items-2.ensures.ready c.args.board.now c.args.unit c.requires.ready c.in_ok-notes-2.ensures.ready
