-- What the answers of calls stand for.
use Rattle.std.specs.Prelude.{◌≡◌, ◌⊎◌, Result, Ok, Err}
use Rattle.sexpr_read.specs.declared.view.Node.{Node}
use Rattle.sexpr_read.specs.Tree.{Tree}
use Rattle.sexpr_read.specs.TreeViews.{tree_of}

-- the tree of a node that was found
abbrev pub tree_in : {E : Type 0} → Result Node E → Result Tree E
tree_in (Ok node) = Ok (tree_of node)
tree_in (Err e) = Err e

-- the call gives a value that stands for this answer, unless it fails for this one reason, which no definition speaks of
abbrev pub GivesUnless : {E T A : Type 0} → E → (T → A) → Result T E → Result A E → Type 0
GivesUnless free view (Ok x) answer = answer ≡ Ok (view x)
GivesUnless free view (Err e) answer = (e ≡ free) ⊎ (answer ≡ Err e)
