use Rattle.std.proofs.lemmas.Result.{err_from_is_err_and}
use Rattle.sexpr_read.specs.TreeViews.{root_of}
use Rattle.board_write.proofs.Sourcing.{tree_refused, exit_refused, read_not_refused}
use Rattle.board_write.proofs.source.read_source.Goals as goal

pub returns-in_err-board-in-Ok-clause-refused : goal.returns-in_err-board-in-Ok-clause-refused
returns-in_err-board-in-Ok-clause-refused c why told =
    let p = err_from_is_err_and c.from_residual.result c.from_residual.ensures.1 in
    let e = c.in_err-board-in-Ok.field-0.0 in
    exit_refused c.from_residual.result p.0 e why p.1 p.2
    (tree_refused c.args.text.now (root_of c.in-Ok.doc) e c.in-Ok.ensures.exact c.in-Ok.ensures.spelled c.in_err-board-in-Ok.ensures.says (c.one_reading.ensures c.args.text.now) why told)

pub returns-in_ok-board-in-Ok-clause-refused : goal.returns-in_ok-board-in-Ok-clause-refused
returns-in_ok-board-in-Ok-clause-refused c why told =
    absurd (
    read_not_refused c.args.text.now (root_of c.in-Ok.doc) c.in_ok-board-in-Ok.board why c.in-Ok.ensures.exact c.in-Ok.ensures.spelled c.in_ok-board-in-Ok.ensures.says
    (c.one_reading.ensures c.args.text.now) told
    )
