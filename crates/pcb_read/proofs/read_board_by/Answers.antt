use Rattle.std.proofs.Common.{sym, subst}
use Rattle.sexpr_read.specs.Tree.{Tree}
use Rattle.sexpr_read.specs.Spelling.{Spells}
use Rattle.sexpr_read.specs.TreeViews.{tree_of}
use Rattle.pcb_read.proofs.Parting.{only_board_alone}
use Rattle.pcb_read.proofs.read_board_by.Goals as goal

pub returns-in-Ok-clause-only : goal.returns-in-Ok-clause-only
returns-in-Ok-clause-only g c answer h =
    only_board_alone c.args.text.now (tree_of c.root.result) c.board_by.result answer (c.one_reading.ensures c.args.text.now) c.in-Ok.ensures.exact
    (subst (λ (tree : Tree). Spells c.args.text.now tree) (sym c.root.ensures) c.in-Ok.ensures.spelled) c.board_by.ensures h
