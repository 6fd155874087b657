use Rattle.std.proofs.Common.{arith}
use Rattle.sexpr_read.specs.TreeViews.{trees_left}
use Rattle.sexpr_read.proofs.Splits.{trees_fit}
use Rattle.sexpr_read.proofs.view.Node.children.Goals as goal

pub returns-in-List-clause-fits : goal.returns-in-List-clause-fits
unfolding trees_left
returns-in-List-clause-fits c =
    let bound = trees_fit c.args.self.text.now c.args.self.cells.now c.args.self.whole in omega (arith, bound)
