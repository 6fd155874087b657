use Rattle.std.proofs.Common.{◌∙◌, sym}
use Rattle.sexpr_read.specs.TreeViews.{tree_of}
use Rattle.board_write.proofs.Groves.{unit_first, unit_all}
use Rattle.board_write.proofs.places.Moving.of_unit.Goals as goal

pub returns-then-has_head : goal.returns-then-has_head
returns-then-has_head c = unit_first c.args.by (tree_of c.args.list) (sym c.has_head.ensures ∙ c.if-has_head.true)

pub returns-else-has_head : goal.returns-else-has_head
returns-else-has_head c = unit_all c.args.by (tree_of c.args.list) (sym c.has_head.ensures ∙ c.if-has_head.false)
