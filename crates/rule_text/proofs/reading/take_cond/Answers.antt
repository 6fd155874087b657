use Rattle.sexpr_read.specs.TreeViews.{tree_of}
use Rattle.rule_text.proofs.Shortness.{atom_short}
use Rattle.rule_text.proofs.reading.take_cond.Goals as goal

pub cond_in-requires : goal.cond_in-requires
cond_in-requires c = atom_short (tree_of c.args.clause) (tree_of c.in_ok-atom.atom) c.in_ok-atom.ensures c.requires
