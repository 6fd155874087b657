use Rattle.sexpr_read.specs.TreeViews.{root_of}
use Rattle.pcb_read.proofs.Parting.{only_board}
use Rattle.pcb_read.proofs.read_with_spans.Goals as goal

pub returns-in-Ok-clause-only : goal.returns-in-Ok-clause-only
returns-in-Ok-clause-only c answer h =
    only_board c.args.text.now (root_of c.in-Ok.doc) c.read_tree.result answer (c.one_reading.ensures c.args.text.now) c.in-Ok.ensures.exact c.in-Ok.ensures.spelled c.read_tree.ensures.says h
