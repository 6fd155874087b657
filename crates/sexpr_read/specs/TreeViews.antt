-- What a document, a node and an iterator stand for.
use Rattle.std.specs.Prelude.{List}
use Rattle.sexpr_read.specs.declared.view.Doc.{Doc}
use Rattle.sexpr_read.specs.declared.view.Node.{Node}
use Rattle.sexpr_read.specs.declared.view.Children.{Children}
use Rattle.sexpr_read.specs.Tree.{Tree, branch, trees}
use Rattle.sexpr_read.specs.ForestCells.{forest_of, tree_at}

-- the tree of a document: its one list, or the list of all its forms
unfoldable pub root_of : Doc → Tree
root_of doc = branch doc.span (forest_of doc.text.now doc.cells.items)

-- the tree of a node
unfoldable pub tree_of : Node → Tree
tree_of node = tree_at node.text.now node.kind node.span node.cells.now

-- the trees that an iterator has still to give
unfoldable pub trees_left : Children → List Tree
trees_left children = trees (forest_of children.text.now children.cells.now)
