use Rattle.std.proofs.Common.{◌<◌, ap, length, arith}
use Rattle.sexpr_read.specs.ForestCells.{forest_of}
use Rattle.sexpr_read.specs.Tree.{trees}
use Rattle.sexpr_read.specs.TreeViews.{tree_of, trees_left}
use Rattle.sexpr_read.proofs.Splits.{splits_at, placed_at, no_trees, placed-take, placed-drop}
use Rattle.sexpr_read.proofs.Texts.{texts_of_split}
use Rattle.sexpr_read.proofs.view.ChildrenIterator.next.Goals as goal

pub returns-in_err-cell-clause-steps : goal.returns-in_err-cell-clause-steps
unfolding tree_of trees_left
returns-in_err-cell-clause-steps c =
    let none_left = no_trees c.args.self.now.text.now c.args.self.now.cells.now c.in_err-cell.ensures.cases in
    rw c.from_residual.ensures (none_left, none_left)

pub split_at-requires : goal.split_at-requires
split_at-requires c =
    (splits_at c.args.self.now.text.now c.args.self.now.cells.now c.in_ok-cell.cell.now c.in_ok-cell.after.now c.in_ok-cell.ensures.cases.0
    c.args.self.now.whole).fits

pub invariant_of-self : goal.invariant_of-self
invariant_of-self c =
    let s = splits_at c.args.self.now.text.now c.args.self.now.cells.now c.in_ok-cell.cell.now c.in_ok-cell.after.now c.in_ok-cell.ensures.cases.0
    c.args.self.now.whole in
    let p = placed_at c.args.self.now.text.now c.args.self.now.cells.now c.in_ok-cell.cell.now c.in_ok-cell.after.now c.in_ok-cell.ensures.cases.0
    c.args.self.now.each_placed in
    let t = texts_of_split c.args.self.now.text.now c.args.self.now.cells.now c.in_ok-cell.cell.now c.in_ok-cell.after.now c.in_ok-cell.ensures.cases.0
    s c.args.self.now.texts in
    record {
      whole = rw c.split_at.ensures.back s.outer;
      each_placed = rw c.split_at.ensures.back (placed-drop c.args.self.now.text.now c.in_ok-cell.cell.now.inside c.in_ok-cell.after.now p.2);
      texts = rw c.split_at.ensures.back t.1;
    }

pub invariant_of-result : goal.invariant_of-result
invariant_of-result c =
    let s = splits_at c.args.self.now.text.now c.args.self.now.cells.now c.in_ok-cell.cell.now c.in_ok-cell.after.now c.in_ok-cell.ensures.cases.0
    c.args.self.now.whole in
    let p = placed_at c.args.self.now.text.now c.args.self.now.cells.now c.in_ok-cell.cell.now c.in_ok-cell.after.now c.in_ok-cell.ensures.cases.0
    c.args.self.now.each_placed in
    let t = texts_of_split c.args.self.now.text.now c.args.self.now.cells.now c.in_ok-cell.cell.now c.in_ok-cell.after.now c.in_ok-cell.ensures.cases.0
    s c.args.self.now.texts in
    record {
      placed = rw (c.kind_at-kind.ensures) p.1;
      whole = rw c.split_at.ensures.front s.inner;
      each_placed = rw c.split_at.ensures.front (placed-take c.args.self.now.text.now c.in_ok-cell.cell.now.inside c.in_ok-cell.after.now p.2);
      texts = rw (c.split_at.ensures.front, c.kind_at-kind.ensures) t.0;
    }

pub returns-clause-steps : goal.returns-clause-steps
unfolding tree_of trees_left
returns-clause-steps c =
    let s = splits_at c.args.self.now.text.now c.args.self.now.cells.now c.in_ok-cell.cell.now c.in_ok-cell.after.now c.in_ok-cell.ensures.cases.0
    c.args.self.now.whole in
    rw (c.in_ok-cell.ensures.cases.0, c.split_at.ensures.front, c.split_at.ensures.back, c.kind_at-kind.ensures) s.given

pub returns-clause-goes : goal.returns-clause-goes
unfolding trees_left
returns-clause-goes c =
    let text = c.args.self.now.text.now in
    let s = splits_at text c.args.self.now.cells.now c.in_ok-cell.cell.now c.in_ok-cell.after.now c.in_ok-cell.ensures.cases.0
    c.args.self.now.whole in
    let fewer : length (trees (forest_of text c.split_at.result.1.now)) < length (trees (forest_of text c.args.self.now.cells.now)) =
    rw (c.split_at.ensures.back, c.in_ok-cell.ensures.cases.0) (omega (arith, ap length s.given)) in
    record { on = λ _. (tt, tt, fewer); keeps = tt; rests = λ _. tt }
