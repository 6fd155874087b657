use Rattle.sexpr_read.proofs.Unique.{unique_tree, unique_forms}
use Rattle.sexpr_read.proofs.laws.one_tree.Goals as goal

pub returns : goal.returns
returns c = record { one = unique_tree; forms = unique_forms }
