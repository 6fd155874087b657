use Rattle.std.proofs.Common.{◌∙◌, sym}
use Rattle.sexpr_read.specs.TreeViews.{tree_of}
use Rattle.pcb_read.proofs.Parting.{part_says}
use Rattle.pcb_read.proofs.root.read_part.Goals as goal

pub returns-in-Some-clause-read : goal.returns-in-Some-clause-read
returns-in-Some-clause-read c =
    part_says (record { board = c.args.board.now; layered = c.args.layered.now }) (tree_of c.args.node) c.in-Some.sort c.read_items.new.board c.read_items.result
    (sym c.sort_of.ensures ∙ c.in-Some.is) c.read_items.ensures.read
