-- What is looked for among the parts of a list, and what is found.
use Rattle.std.specs.Prelude.{Option}
use Rattle.sexpr_read.specs.Tree.{Tree}
use Rattle.list_read.specs.declared.elements.Wanted.{Wanted}
use Rattle.list_read.specs.declared.elements.Wanted.TheVariants.{Head, Name}
use Rattle.list_read.specs.NamedElements.{element, naming}

-- the first part of the list that is the one
abbrev pub found_in : Tree → Wanted → Option Tree
found_in tree (Head word) = element word.now tree
found_in tree Name = naming tree
