use Rattle.std.proofs.Common.{sym}
use Rattle.sexpr_read.specs.TreeViews.{tree_of}
use Rattle.part_read.proofs.Reach.{raw_point_within}
use Rattle.part_read.proofs.drawings.raw_point_in.Goals as goal

pub returns-clause-within : goal.returns-clause-within
returns-clause-within c = raw_point_within (tree_of c.args.list) c.in_ok-raw_point.raw_point (sym c.in_ok-raw_point.ensures)
