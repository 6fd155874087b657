use Rattle.std.proofs.Common.{◌∙◌, sym}
use Rattle.sexpr_read.specs.TreeViews.{tree_of}
use Rattle.part_read.proofs.RawPointTaking.{raw_point_taken}
use Rattle.part_read.proofs.drawings.take_raw_point.Goals as goal

pub returns-then-has_head-clause-taken : goal.returns-then-has_head-clause-taken
returns-then-has_head-clause-taken c rest =
    raw_point_taken c.args.curved (tree_of c.args.part) rest _ _ c.in_ok-raw_point.raw_point (sym c.has_head.ensures ∙ c.if-has_head.true)
    (sym c.in_ok-raw_point.ensures.raw_point) c.in_ok-gather.ensures
